-- Answers of stmt: the first token decides on the form, and a part that is refused refuses the whole.
use Rattle.std.proofs.Common.{◌≡◌, ◌+◌, ◌-◌, ◌∙◌, true, false, Some, None, [], length, map, option_map, arith, rules}
use Rattle.std.proofs.lemmas.Grind.{common_steps}
use Rattle.std.proofs.lemmas.List.{map-append}
use Rattle.rev_syntax.specs.View as view
use Rattle.rev_expressions.specs.Outcome.{after, next}
use Rattle.rev_expressions.specs.Reader.{begins, is_next}
use Rattle.rev_syntax.specs.declared.token.Fixed.TheVariants as s
use Rattle.rev_expressions.specs.Grammar as spec
use Rattle.rev_expressions.specs.Statements as st
use Rattle.rev_expressions.proofs.Lists.{all_go, all_stop}
use Rattle.rev_parse.proofs.StatementRules as rule
use Rattle.rev_parse.proofs.statement.+stmt.Goals as goal
use Rattle.rev_expressions.specs.Classes as class

pub block-returns-then-not-is_at : goal.block-returns-then-not-is_at
block-returns-then-not-is_at t c =
    let e : is_next spec.alphabet (class.fixed s.OpenBrace) c.args.cursor.now.rest.now ≡ false = search rules in
    let h = rule.block_no c.args.source.now.bytes.now c.args.levels c.args.cursor.now.rest.now e in
    grind (arith, common_steps, h)

pub block-returns : goal.block-returns
block-returns t c =
    let e : is_next spec.alphabet (class.fixed s.OpenBrace) c.args.cursor.now.rest.now ≡ true = search rules in
    let h = rule.block_yes c.args.source.now.bytes.now c.args.levels c.args.cursor.now.rest.now e
    ∙ rule.body_only c.args.source.now.bytes.now c.args.levels c.in_ok-inner.inner c.args.cursor.now.rest.now
    c.in_ok-inner.ensures in
    grind (arith, common_steps, h)

pub statements-loop-turn-preserved : goal.statements-loop-turn-preserved
statements-loop-turn-preserved t c =
    let e : begins spec.alphabet (st.statement c.args.source.now.bytes.now) c.loop-turn.cursor.rest.now ≡ true =
    rule.begins_statement c.args.source.now.bytes.now c.args.levels c.loop-turn.cursor.rest.now ∙ search rules in
    let h = all_go c.args.source.now.bytes.now c.args.levels (st.statement c.args.source.now.bytes.now)
    (c.left-turn-end.result - c.loop-turn._turn) (c.left-turn-end.result - (c.loop-turn._turn + 1))
    (map view.stmt c.loop-turn.found.items) c.loop-turn.cursor.rest.now (omega arith) e in
    grind (arith, common_steps, map-append, h)

pub statements-returns-in_err-stmt : goal.statements-returns-in_err-stmt
statements-returns-in_err-stmt t c =
    let e : begins spec.alphabet (st.statement c.args.source.now.bytes.now) c.loop-turn.cursor.rest.now ≡ true =
    rule.begins_statement c.args.source.now.bytes.now c.args.levels c.loop-turn.cursor.rest.now ∙ search rules in
    let h = all_go c.args.source.now.bytes.now c.args.levels (st.statement c.args.source.now.bytes.now)
    (c.left-turn-end.result - c.loop-turn._turn) (c.left-turn-end.result - (c.loop-turn._turn + 1))
    (map view.stmt c.loop-turn.found.items) c.loop-turn.cursor.rest.now (omega arith) e in
    grind (arith, common_steps, h)

pub statements-returns-then-not-begins_statement : goal.statements-returns-then-not-begins_statement
statements-returns-then-not-begins_statement t c =
    let e : begins spec.alphabet (st.statement c.args.source.now.bytes.now) c.args.cursor.now.rest.now ≡ false =
    rule.begins_statement c.args.source.now.bytes.now c.args.levels c.args.cursor.now.rest.now ∙ search rules in
    let h = all_stop c.args.source.now.bytes.now c.args.levels (st.statement c.args.source.now.bytes.now)
    (length c.args.cursor.now.rest.now) [] c.args.cursor.now.rest.now e in
    grind (arith, common_steps, h)

pub statements-returns-then-not-begins_statement-2 : goal.statements-returns-then-not-begins_statement-2
statements-returns-then-not-begins_statement-2 t c =
    let e : begins spec.alphabet (st.statement c.args.source.now.bytes.now) c.loop-turn.cursor.rest.now ≡ false =
    rule.begins_statement c.args.source.now.bytes.now c.args.levels c.loop-turn.cursor.rest.now ∙ search rules in
    let h = all_stop c.args.source.now.bytes.now c.args.levels (st.statement c.args.source.now.bytes.now)
    (c.left-turn-end.result - c.loop-turn._turn) (map view.stmt c.loop-turn.found.items) c.loop-turn.cursor.rest.now
    e in
    grind (arith, common_steps, h)

pub statement-returns-in_default : goal.statement-returns-in_default
statement-returns-in_default t c =
    let e : next c.args.cursor.now.rest.now ≡ None = search rules in
    let h = rule.statement_end c.args.source.now.bytes.now c.args.levels c.args.cursor.now.rest.now e in
    grind (arith, common_steps, h)

pub statement-returns-in_err-form : goal.statement-returns-in_err-form
statement-returns-in_err-form t c =
    let e : next c.args.cursor.now.rest.now ≡ Some c.in-Some.token = cc in
    let h = rule.statement_is c.args.source.now.bytes.now c.args.levels c.in-Some.token c.args.cursor.now.rest.now e in
    grind (arith, common_steps, h)

pub statement-returns : goal.statement-returns
statement-returns t c =
    let e : next c.args.cursor.now.rest.now ≡ Some c.in-Some.token = cc in
    let h = rule.statement_is c.args.source.now.bytes.now c.args.levels c.in-Some.token c.args.cursor.now.rest.now e in
    grind (arith, common_steps, h)

pub if_form-returns-in_err-first : goal.if_form-returns-in_err-first
if_form-returns-in_err-first t c =
    let h = rule.if_is c.args.source.now.bytes.now c.args.levels c.args.cursor.now.rest.now in
    grind (arith, common_steps, h)

pub if_form-returns-in_err-arms : goal.if_form-returns-in_err-arms
if_form-returns-in_err-arms t c =
    let h = rule.if_is c.args.source.now.bytes.now c.args.levels c.args.cursor.now.rest.now in
    grind (arith, common_steps, h)

pub if_form-returns : goal.if_form-returns
if_form-returns t c =
    let h = rule.if_is c.args.source.now.bytes.now c.args.levels c.args.cursor.now.rest.now in
    let all =
    rule.conditional_is c.args.source.now.bytes.now c.args.levels (map view.arm c.in_ok-arms.arms.items)
    (option_map view.block c.in_ok-arms.last) in
    grind (arith, common_steps, h, all)

pub else_parts-loop-turn-preserved : goal.else_parts-loop-turn-preserved
else_parts-loop-turn-preserved t c =
    let e : is_next spec.alphabet (class.fixed s.Else) c.loop-turn.cursor.rest.now ≡ true = search rules in
    let i : is_next spec.alphabet (class.fixed s.If) (after c.loop-turn.cursor.rest.now) ≡ true = search rules in
    let h = rule.parts_test c.args.source.now.bytes.now c.args.levels (c.left-turn-end.result - c.loop-turn._turn)
    (c.left-turn-end.result - (c.loop-turn._turn + 1)) (map st.Test (map view.arm c.loop-turn.arms.items))
    c.loop-turn.cursor.rest.now (omega arith) e i in
    grind (arith, common_steps, map-append, h)

pub else_parts-returns-in_err-next : goal.else_parts-returns-in_err-next
else_parts-returns-in_err-next t c =
    let e : is_next spec.alphabet (class.fixed s.Else) c.loop-turn.cursor.rest.now ≡ true = search rules in
    let i : is_next spec.alphabet (class.fixed s.If) (after c.loop-turn.cursor.rest.now) ≡ true = search rules in
    let h = rule.parts_test c.args.source.now.bytes.now c.args.levels (c.left-turn-end.result - c.loop-turn._turn)
    (c.left-turn-end.result - (c.loop-turn._turn + 1)) (map st.Test (map view.arm c.loop-turn.arms.items))
    c.loop-turn.cursor.rest.now (omega arith) e i in
    grind (arith, common_steps, h)

pub else_parts-returns-in_err-last : goal.else_parts-returns-in_err-last
else_parts-returns-in_err-last t c =
    let e : is_next spec.alphabet (class.fixed s.Else) c.loop-turn.cursor.rest.now ≡ true = search rules in
    let i : is_next spec.alphabet (class.fixed s.If) (after c.loop-turn.cursor.rest.now) ≡ false = search rules in
    let h = rule.parts_last c.args.source.now.bytes.now c.args.levels (c.left-turn-end.result - c.loop-turn._turn)
    (c.left-turn-end.result - (c.loop-turn._turn + 1)) (map st.Test (map view.arm c.loop-turn.arms.items))
    c.loop-turn.cursor.rest.now (omega arith) e i in
    grind (arith, common_steps, h)

pub else_parts-returns-then-not-is_at-2 : goal.else_parts-returns-then-not-is_at-2
else_parts-returns-then-not-is_at-2 t c =
    let e : is_next spec.alphabet (class.fixed s.Else) c.loop-turn.cursor.rest.now ≡ true = search rules in
    let i : is_next spec.alphabet (class.fixed s.If) (after c.loop-turn.cursor.rest.now) ≡ false = search rules in
    let h = rule.parts_last c.args.source.now.bytes.now c.args.levels (c.left-turn-end.result - c.loop-turn._turn)
    (c.left-turn-end.result - (c.loop-turn._turn + 1)) (map st.Test (map view.arm c.loop-turn.arms.items))
    c.loop-turn.cursor.rest.now (omega arith) e i in
    grind (arith, common_steps, h)

pub else_parts-returns-then-not-is_at : goal.else_parts-returns-then-not-is_at
else_parts-returns-then-not-is_at t c =
    let e : is_next spec.alphabet (class.fixed s.Else) c.loop-turn.cursor.rest.now ≡ false = search rules in
    let h = rule.parts_stop c.args.source.now.bytes.now c.args.levels (c.left-turn-end.result - c.loop-turn._turn)
    (map st.Test (map view.arm c.loop-turn.arms.items)) c.loop-turn.cursor.rest.now e in
    grind (arith, common_steps, h)

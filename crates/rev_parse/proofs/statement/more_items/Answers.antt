-- Answers of more_items: a comma with an item behind it adds one, its refusal refuses all, and no comma ends it.
use Rattle.std.proofs.Common.{◌≡◌, ◌+◌, ◌-◌, true, false, map, arith, rules}
use Rattle.std.proofs.lemmas.Grind.{common_steps}
use Rattle.std.proofs.lemmas.List.{map-append}
use Rattle.rev_syntax.specs.View as view
use Rattle.rev_expressions.specs.Reader.{is_next}
use Rattle.rev_syntax.specs.declared.token.Fixed.TheVariants as s
use Rattle.rev_expressions.specs.Grammar as spec
use Rattle.rev_expressions.specs.Statements as st
use Rattle.rev_expressions.proofs.Lists.{comma_go, comma_stop}
use Rattle.rev_parse.proofs.statement.more_items.Goals as goal
use Rattle.rev_expressions.specs.Classes as class

pub loop-turn-preserved : goal.loop-turn-preserved
loop-turn-preserved c =
    let e : is_next spec.alphabet (class.fixed s.Comma) c.loop-turn.cursor.rest.now ≡ true = search rules in
    let h = comma_go c.args.source.now.bytes.now c.args.levels (st.item c.args.source.now.bytes.now)
    (c.left-turn-end.result - c.loop-turn._turn) (c.left-turn-end.result - (c.loop-turn._turn + 1))
    (map view.print_item c.loop-turn.found.items) c.loop-turn.cursor.rest.now (omega arith) e in
    grind (arith, common_steps, map-append, h)

pub returns-in_err-item : goal.returns-in_err-item
returns-in_err-item c =
    let e : is_next spec.alphabet (class.fixed s.Comma) c.loop-turn.cursor.rest.now ≡ true = search rules in
    let h = comma_go c.args.source.now.bytes.now c.args.levels (st.item c.args.source.now.bytes.now)
    (c.left-turn-end.result - c.loop-turn._turn) (c.left-turn-end.result - (c.loop-turn._turn + 1))
    (map view.print_item c.loop-turn.found.items) c.loop-turn.cursor.rest.now (omega arith) e in
    grind (arith, common_steps, h)

pub returns-then-not-is_at : goal.returns-then-not-is_at
returns-then-not-is_at c =
    let e : is_next spec.alphabet (class.fixed s.Comma) c.loop-turn.cursor.rest.now ≡ false = search rules in
    let h = comma_stop c.args.source.now.bytes.now c.args.levels (st.item c.args.source.now.bytes.now)
    (c.left-turn-end.result - c.loop-turn._turn) (map view.print_item c.loop-turn.found.items)
    c.loop-turn.cursor.rest.now e in
    grind (arith, common_steps, h)

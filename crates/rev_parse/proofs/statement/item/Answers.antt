-- Answers of item: a text is an item by itself, and any other token begins a value.
use Rattle.std.proofs.Common.{◌≡◌, Some, None, arith, rules}
use Rattle.std.proofs.lemmas.Grind.{common_steps}
use Rattle.rev_expressions.specs.Outcome.{next}
use Rattle.rev_parse.proofs.StatementRules as rule
use Rattle.rev_parse.proofs.statement.item.Goals as goal

pub returns-in_default : goal.returns-in_default
returns-in_default c =
    let e : next c.args.cursor.now.rest.now ≡ None = search rules in
    let h = rule.item_end c.args.source.now.bytes.now c.args.levels c.args.cursor.now.rest.now e in
    grind (arith, common_steps, h)

pub returns-in_ok-text-in-Text : goal.returns-in_ok-text-in-Text
returns-in_ok-text-in-Text c =
    let e : next c.args.cursor.now.rest.now ≡ Some c.in-Some.token = cc in
    let h = rule.item_text c.args.source.now.bytes.now c.args.levels c.in-Some.token c.args.cursor.now.rest.now e
    c.in-Text.is in
    grind (arith, common_steps, h)

pub returns-in_ok-expr-in_default-kind : goal.returns-in_ok-expr-in_default-kind
returns-in_ok-expr-in_default-kind c =
    let e : next c.args.cursor.now.rest.now ≡ Some c.in-Some.token = cc in
    let h = rule.item_value c.args.source.now.bytes.now c.args.levels c.in-Some.token c.args.cursor.now.rest.now e
    c.in_default-kind.not-Text in
    grind (arith, common_steps, h)

pub returns-in_err-expr-in_default-kind : goal.returns-in_err-expr-in_default-kind
returns-in_err-expr-in_default-kind c =
    let e : next c.args.cursor.now.rest.now ≡ Some c.in-Some.token = cc in
    let h = rule.item_value c.args.source.now.bytes.now c.args.levels c.in-Some.token c.args.cursor.now.rest.now e
    c.in_default-kind.not-Text in
    grind (arith, common_steps, h)

-- Answers of items: the next token tells whether the list has a first item or none.
use Rattle.std.proofs.Common.{◌≡◌, true, false, arith, rules}
use Rattle.std.proofs.lemmas.Grind.{common_steps}
use Rattle.rev_parse.specs.Parts.{item_begins}
use Rattle.rev_parse.proofs.StatementRules as rule
use Rattle.rev_parse.proofs.statement.items.Goals as goal

pub returns-then-not-begins_item : goal.returns-then-not-begins_item
returns-then-not-begins_item c =
    let e : item_begins c.args.cursor.now.rest.now ≡ false = search rules in
    let h = rule.items_no c.args.source.now.bytes.now c.args.levels c.args.cursor.now.rest.now e in
    grind (arith, common_steps, h)

pub returns-in_err-first : goal.returns-in_err-first
returns-in_err-first c =
    let e : item_begins c.args.cursor.now.rest.now ≡ true = search rules in
    let h = rule.items_yes c.args.source.now.bytes.now c.args.levels c.args.cursor.now.rest.now e in
    grind (arith, common_steps, h)

pub returns : goal.returns
returns c =
    let e : item_begins c.args.cursor.now.rest.now ≡ true = search rules in
    let h = rule.items_yes c.args.source.now.bytes.now c.args.levels c.args.cursor.now.rest.now e in
    grind (arith, common_steps, h)

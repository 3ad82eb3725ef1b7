-- Answers of return_form: the next token tells whether a value is returned, and each refusal is that of the form.
use Rattle.std.proofs.Common.{◌≡◌, true, false, arith, rules}
use Rattle.std.proofs.lemmas.Grind.{common_steps}
use Rattle.rev_expressions.specs.Parse.{expr_begins}
use Rattle.rev_parse.proofs.StatementRules as rule
use Rattle.rev_parse.proofs.statement.return_form.Goals as goal

pub returns-in_err-expect : goal.returns-in_err-expect
returns-in_err-expect c =
    let e : expr_begins c.args.cursor.now.rest.now ≡ false = search rules in
    let h = rule.return_no c.args.source.now.bytes.now c.args.levels c.args.cursor.now.rest.now e in
    grind (arith, common_steps, h)

pub returns-then-not-begins_expr : goal.returns-then-not-begins_expr
returns-then-not-begins_expr c =
    let e : expr_begins c.args.cursor.now.rest.now ≡ false = search rules in
    let h = rule.return_no c.args.source.now.bytes.now c.args.levels c.args.cursor.now.rest.now e in
    grind (arith, common_steps, h)

pub returns-in_err-value : goal.returns-in_err-value
returns-in_err-value c =
    let e : expr_begins c.args.cursor.now.rest.now ≡ true = search rules in
    let h = rule.return_yes c.args.source.now.bytes.now c.args.levels c.args.cursor.now.rest.now e in
    grind (arith, common_steps, h)

pub returns-in_err-expect-2 : goal.returns-in_err-expect-2
returns-in_err-expect-2 c =
    let e : expr_begins c.args.cursor.now.rest.now ≡ true = search rules in
    let h = rule.return_yes c.args.source.now.bytes.now c.args.levels c.args.cursor.now.rest.now e in
    grind (arith, common_steps, h)

pub returns : goal.returns
returns c =
    let e : expr_begins c.args.cursor.now.rest.now ≡ true = search rules in
    let h = rule.return_yes c.args.source.now.bytes.now c.args.levels c.args.cursor.now.rest.now e in
    grind (arith, common_steps, h)

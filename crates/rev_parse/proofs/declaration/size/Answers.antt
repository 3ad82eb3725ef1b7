-- Answers of size: behind an open bracket a level is taken, and the cells or their refusal are the size's.
use Rattle.std.proofs.Common.{◌≡◌, [], true, arith, rules}
use Rattle.std.proofs.lemmas.Grind.{common_steps}
use Rattle.rev_expressions.specs.Reader.{is_next}
use Rattle.rev_syntax.specs.declared.token.Fixed.TheVariants as s
use Rattle.rev_expressions.specs.Grammar.{alphabet}
use Rattle.rev_parse.proofs.DeclarationRules.{size_go}
use Rattle.rev_parse.proofs.declaration.size.Goals as goal
use Rattle.rev_expressions.specs.Classes as class

pub returns-in_err-size : goal.returns-in_err-size
returns-in_err-size c =
    let e : is_next alphabet (class.fixed s.OpenBracket) c.args.cursor.now.rest.now ≡ true = search rules in
    let h = size_go [] c.args.levels c.in_ok-within.field-0 c.args.cursor.now.rest.now e c.in_ok-within.ensures in
    grind (arith, common_steps, h)

pub returns : goal.returns
returns c =
    let e : is_next alphabet (class.fixed s.OpenBracket) c.args.cursor.now.rest.now ≡ true = search rules in
    let h = size_go [] c.args.levels c.in_ok-within.field-0 c.args.cursor.now.rest.now e c.in_ok-within.ensures in
    grind (arith, common_steps, h)

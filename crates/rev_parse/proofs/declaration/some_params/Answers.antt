-- Answers of some_params: the next token tells by a name whether the list has a first parameter or none.
use Rattle.std.proofs.Common.{◌≡◌, true, false, arith, rules}
use Rattle.std.proofs.lemmas.Grind.{common_steps}
use Rattle.rev_expressions.specs.Reader.{is_next}
use Rattle.rev_expressions.specs.Grammar.{alphabet}
use Rattle.rev_parse.proofs.DeclarationRules.{params_no, params_yes}
use Rattle.rev_parse.proofs.declaration.some_params.Goals as goal
use Rattle.rev_expressions.specs.Classes as class

pub returns-then-not-is_at_name : goal.returns-then-not-is_at_name
returns-then-not-is_at_name c =
    let e : is_next alphabet class.name c.args.cursor.now.rest.now ≡ false = search rules in
    let h = params_no c.args.source.now.bytes.now c.args.levels c.args.cursor.now.rest.now e in
    grind (arith, common_steps, h)

pub returns-in_err-first : goal.returns-in_err-first
returns-in_err-first c =
    let e : is_next alphabet class.name c.args.cursor.now.rest.now ≡ true = search rules in
    let h = params_yes c.args.source.now.bytes.now c.args.levels c.args.cursor.now.rest.now e in
    grind (arith, common_steps, h)

pub returns : goal.returns
returns c =
    let e : is_next alphabet class.name c.args.cursor.now.rest.now ≡ true = search rules in
    let h = params_yes c.args.source.now.bytes.now c.args.levels c.args.cursor.now.rest.now e in
    grind (arith, common_steps, h)

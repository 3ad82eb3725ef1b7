-- Answers of negative: a number among the tokens is not negative, so it can be negated in 64 bits.
use Rattle.std.proofs.Common.{◌≡◌, ◌≤ℤ◌, pos, Some, arith, rules}
use Rattle.std.proofs.lemmas.Int.{ints}
use mir.Syntax.{w64}
use mir.Val.{SFits}
use Rattle.rev_expressions.specs.Outcome.{next}
use Rattle.rev_parse.proofs.Naturals.{natural_number}
use Rattle.rev_parse.proofs.declaration.negative.Goals as goal

pub negated-requires : goal.negated-requires
negated-requires c =
    let e : next c.args.cursor.now.rest.now ≡ Some c.in-Some.token = cc in
    let fits : SFits w64 c.in-Int.n = search rules in
    let natural : pos 0 ≤ℤ c.in-Int.n =
    natural_number c.in-Some.token c.in-Int.n c.args.cursor.now.rest.now e c.in-Int.is c.requires in
    omega (arith, ints)

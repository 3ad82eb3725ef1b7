-- Answers of constant: behind a minus the tokens still have no negative number, so the number may be negated.
use Rattle.std.proofs.Common.{◌≡◌, Some, sym, subst, arith, rules}
use Rattle.std.proofs.lemmas.Grind.{common_steps}
use Rattle.rev_expressions.specs.Outcome.{next}
use Rattle.rev_parse.specs.Pieces.{AreNatural}
use Rattle.rev_parse.proofs.DeclarationRules.{constant_minus}
use Rattle.rev_parse.proofs.Naturals.{natural_after}
use Rattle.rev_syntax.specs.declared.token.TokenKind.TheVariants as k
use Rattle.rev_syntax.specs.declared.token.Fixed.TheVariants as s
use Rattle.rev_parse.proofs.declaration.constant.Goals as goal

pub negative-requires : goal.negative-requires
negative-requires c =
    subst (λ ts. AreNatural ts) (sym c.advance.ensures) (natural_after c.args.cursor.now.rest.now c.requires)

pub returns-in-Fixed-Minus : goal.returns-in-Fixed-Minus
returns-in-Fixed-Minus c =
    let e : next c.args.cursor.now.rest.now ≡ Some c.in-Some.token = cc in
    let h = constant_minus c.in-Some.token c.args.cursor.now.rest.now e
    (let z : c.in-Some.token.kind ≡ k.Fixed s.Minus = search rules in z) in
    grind (arith, common_steps, h)

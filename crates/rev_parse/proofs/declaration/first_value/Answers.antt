-- Answers of first_value: behind the sign of assignment the tokens still have no negative number.
use Rattle.std.proofs.Common.{sym, subst}
use Rattle.rev_parse.specs.Pieces.{AreNatural}
use Rattle.rev_parse.proofs.Naturals.{natural_after}
use Rattle.rev_parse.proofs.declaration.first_value.Goals as goal

pub constant-requires : goal.constant-requires
constant-requires c =
    subst (λ ts. AreNatural ts) (sym c.advance.ensures) (natural_after c.args.cursor.now.rest.now c.requires)

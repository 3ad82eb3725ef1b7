-- Answers of place_laws: a well-typed program keeps the rules on places, so each place in the lists is a break.
use Rattle.revision_calculus.proofs.FunKinds.{rules_kept}
use Rattle.affine_check.proofs.Places.{places_found, places_sound, decided}
use Rattle.affine_check.proofs.laws.place_laws.Goals as goal

pub returns : goal.returns
returns c = record {
  found = places_found;
  sound = λ p well b at. places_sound p b at (rules_kept p well);
  decided = λ p well. decided p (rules_kept p well);
}

-- Answers of number_programs: one run of each program on numbers is computed, and every run reports the same.
use Rattle.std.specs.Prelude.{[], ◌∷◌, false, negsuc, pos}
use Rattle.std.specs.Fmt.{digits}
use Rattle.std.proofs.Common.{refl}
use Rattle.revision_calculus.specs.Examples as x
use Rattle.revision_calculus.specs.Examples.{given, usual, usual_fuel}
use Rattle.revision_calculus.proofs.EveryRun.{reports, run_latest}
use Rattle.revision_calculus.proofs.worked.number_programs.Goals as goal

pub returns : goal.returns
unfolding digits
returns c = record {
  least_by_minus_one =
      reports (usual x.divides_the_least) usual_fuel false (run_latest 100 (usual x.divides_the_least) usual_fuel) _
      refl;
  toward_zero =
      reports (usual x.divides_toward_zero) usual_fuel false (run_latest 100 (usual x.divides_toward_zero) usual_fuel) _
      refl;
  two_inputs = reports (given x.adds_inputs (pos 3 ∷ pos 4 ∷ [])) usual_fuel false
      (run_latest 100 (given x.adds_inputs (pos 3 ∷ pos 4 ∷ [])) usual_fuel) _ refl;
  negative_input =
      reports (given x.prints_an_input (negsuc 3 ∷ [])) usual_fuel false
      (run_latest 100 (given x.prints_an_input (negsuc 3 ∷ [])) usual_fuel) _ refl;
  no_input = reports (usual x.prints_an_input) usual_fuel false (run_latest 100 (usual x.prints_an_input) usual_fuel) _
      refl;
}

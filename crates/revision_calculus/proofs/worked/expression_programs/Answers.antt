-- Answers of expression_programs: one run of each program is computed to its end, and every run reports the same.
use Rattle.std.specs.Prelude.{false}
use Rattle.std.specs.Fmt.{digits}
use Rattle.std.proofs.Common.{refl}
use Rattle.revision_calculus.specs.Examples as x
use Rattle.revision_calculus.specs.Examples.{usual, usual_fuel}
use Rattle.revision_calculus.proofs.EveryRun.{reports, run_latest}
use Rattle.revision_calculus.proofs.worked.expression_programs.Goals as goal

pub returns : goal.returns
unfolding digits
returns c = record {
  left_first = reports (usual x.faults_from_the_left) usual_fuel false
      (run_latest 100 (usual x.faults_from_the_left) usual_fuel) _ refl;
  picks = reports (usual x.picks) usual_fuel false (run_latest 100 (usual x.picks) usual_fuel) _ refl;
  short = reports (usual x.decides_from_the_left) usual_fuel false
      (run_latest 100 (usual x.decides_from_the_left) usual_fuel) _ refl;
  needs_the_right =
      reports (usual x.needs_the_right) usual_fuel false (run_latest 100 (usual x.needs_the_right) usual_fuel) _ refl;
}

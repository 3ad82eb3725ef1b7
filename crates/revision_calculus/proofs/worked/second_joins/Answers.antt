-- Answers of second_joins: one run of each program, and two given orders of one, are computed, and join twice.
use Rattle.std.specs.Prelude.{false}
use Rattle.std.specs.Fmt.{digits}
use Rattle.std.proofs.Common.{refl}
use Rattle.revision_calculus.specs.Examples as x
use Rattle.revision_calculus.specs.Examples.{usual, usual_fuel}
use Rattle.revision_calculus.proofs.EveryRun.{reports, run_latest}
use Rattle.revision_calculus.proofs.worked.second_joins.Goals as goal

pub returns : goal.returns
unfolding digits
returns c = record {
  double_join = reports (usual x.double_join) usual_fuel false (run_latest 100 (usual x.double_join) usual_fuel) _ refl;
  two_joiners = reports (usual x.two_joiners) usual_fuel false (run_latest 100 (usual x.two_joiners) usual_fuel) _ refl;
  first_joiner_first = refl;
  second_joiner_first = refl;
  tries_twice = reports (usual x.tries_twice) usual_fuel false (run_latest 100 (usual x.tries_twice) usual_fuel) _ refl;
}

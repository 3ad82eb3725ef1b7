-- Answers of join_programs: one run of each program with joins is computed, and every complete run reports the same.
use Rattle.std.specs.Prelude.{false, true}
use Rattle.std.specs.Fmt.{digits}
use Rattle.std.proofs.Common.{refl}
use Rattle.revision_calculus.specs.Examples as x
use Rattle.revision_calculus.specs.Examples.{usual, usual_fuel}
use Rattle.revision_calculus.proofs.EveryRun.{reports, run_latest}
use Rattle.typed_programs.specs.Definitions.{merge_value_of}
use Rattle.revision_calculus.proofs.worked.join_programs.Goals as goal

pub returns : goal.returns
unfolding digits merge_value_of
returns c = record {
  joinee_wins = reports (usual x.joinee_wins) usual_fuel false (run_latest 100 (usual x.joinee_wins) usual_fuel) _ refl;
  no_write = reports (usual x.no_write) usual_fuel false (run_latest 100 (usual x.no_write) usual_fuel) _ refl;
  write_of_old_value =
      reports (usual x.write_of_old_value) usual_fuel false (run_latest 100 (usual x.write_of_old_value) usual_fuel) _
      refl;
  both_count = reports (usual x.both_count) usual_fuel false (run_latest 100 (usual x.both_count) usual_fuel) _ refl;
  sums = reports (usual x.sums) usual_fuel false (run_latest 100 (usual x.sums) usual_fuel) _ refl;
  handle_travels =
      reports (usual x.handle_travels) usual_fuel true (run_latest 100 (usual x.handle_travels) usual_fuel) _ refl;
  sibling_joins =
      reports (usual x.sibling_joins) usual_fuel false (run_latest 100 (usual x.sibling_joins) usual_fuel) _ refl;
  texts_in_order =
      reports (usual x.texts_in_order) usual_fuel false (run_latest 100 (usual x.texts_in_order) usual_fuel) _ refl;
}

-- Answers of trap_programs: one run of each program that traps is computed, and every complete run reports the same.
use Rattle.std.specs.Prelude.{false, true}
use Rattle.std.specs.Fmt.{digits}
use Rattle.std.proofs.Common.{refl}
use Rattle.revision_calculus.specs.Examples as x
use Rattle.revision_calculus.specs.Examples.{sharing, usual, usual_fuel}
use Rattle.revision_calculus.proofs.EveryRun.{reports, run_latest}
use Rattle.typed_programs.specs.Definitions.{merge_value_of}
use Rattle.revision_calculus.proofs.worked.trap_programs.Goals as goal

pub returns : goal.returns
unfolding digits merge_value_of
returns c = record {
  join_of_none =
      reports (usual x.join_of_none) usual_fuel false (run_latest 100 (usual x.join_of_none) usual_fuel) _ refl;
  joined = reports (usual x.joins_a_trapped_child) usual_fuel false
      (run_latest 100 (usual x.joins_a_trapped_child) usual_fuel) _ refl;
  not_joined = reports (usual x.leaves_a_trapped_child) usual_fuel false
      (run_latest 100 (usual x.leaves_a_trapped_child) usual_fuel) _ refl;
  spent_child = reports (sharing 5 x.spins) usual_fuel false (run_latest 100 (sharing 5 x.spins) usual_fuel) _ refl;
  fuel_suffices = reports (usual x.prints_seven) 1 false (run_latest 100 (usual x.prints_seven) 1) _ refl;
  fuel_spent = reports (usual x.prints_twice) 1 false (run_latest 100 (usual x.prints_twice) 1) _ refl;
  least_fault =
      reports (usual x.merges_fault) usual_fuel true (run_latest 100 (usual x.merges_fault) usual_fuel) _ refl;
  assertion = reports (usual x.asserts_what_is_false) usual_fuel false
      (run_latest 100 (usual x.asserts_what_is_false) usual_fuel) _ refl;
}

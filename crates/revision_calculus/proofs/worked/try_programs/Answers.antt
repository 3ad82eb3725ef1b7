-- Answers of try_programs: one run of each program with a tryjoin is computed, and all complete runs report the same.
use Rattle.std.specs.Prelude.{false, true}
use Rattle.std.specs.Fmt.{digits}
use Rattle.std.proofs.Common.{refl}
use Rattle.revision_calculus.specs.Examples as x
use Rattle.revision_calculus.specs.Examples.{usual, usual_fuel}
use Rattle.revision_calculus.proofs.EveryRun.{reports, run_latest}
use Rattle.typed_programs.specs.Definitions.{merge_value_of}
use Rattle.revision_calculus.proofs.worked.try_programs.Goals as goal

pub returns : goal.returns
unfolding digits merge_value_of
returns c = record {
  tries = reports (usual x.tries) usual_fuel false (run_latest 100 (usual x.tries) usual_fuel) _ refl;
  tries_what_faults =
      reports (usual x.tries_what_faults) usual_fuel true (run_latest 100 (usual x.tries_what_faults) usual_fuel) _
      refl;
  tries_none = reports (usual x.tries_none) usual_fuel false (run_latest 100 (usual x.tries_none) usual_fuel) _ refl;
  tries_into_what_was_written =
      reports (usual x.tries_into_what_was_written) usual_fuel true
      (run_latest 100 (usual x.tries_into_what_was_written) usual_fuel) _ refl;
}

-- Answers of deep_calls: one run of 1,000 frames and one past them are computed, and every run reports the same.
use Rattle.std.specs.Prelude.{false}
use Rattle.std.specs.Fmt.{digits}
use Rattle.std.proofs.Common.{refl}
use Rattle.revision_calculus.specs.Examples as x
use Rattle.revision_calculus.specs.Examples.{usual, usual_fuel}
use Rattle.revision_calculus.proofs.EveryRun.{reports, run_latest}
use Rattle.revision_calculus.proofs.worked.deep_calls.Goals as goal

pub returns : goal.returns
unfolding digits
returns c = record {
  frames_suffice =
      reports (usual (x.calls_deep 999)) usual_fuel false (run_latest 5000 (usual (x.calls_deep 999)) usual_fuel) _
      refl;
  call_depth = reports (usual (x.calls_deep 1000)) usual_fuel false
      (run_latest 5000 (usual (x.calls_deep 1000)) usual_fuel) _ refl;
}

-- Answers of statement_programs: a run of each program on statements is computed, and all complete runs report it.
use Rattle.std.specs.Prelude.{false}
use Rattle.std.specs.Fmt.{digits}
use Rattle.std.proofs.Common.{refl}
use Rattle.revision_calculus.specs.Examples as x
use Rattle.revision_calculus.specs.Examples.{usual, usual_fuel}
use Rattle.revision_calculus.proofs.EveryRun.{reports, run_latest}
use Rattle.revision_calculus.proofs.worked.statement_programs.Goals as goal

pub returns : goal.returns
unfolding digits
returns c = record {
  goes_to_the_else =
      reports (usual x.goes_to_the_else) usual_fuel false (run_latest 100 (usual x.goes_to_the_else) usual_fuel) _ refl;
  returns = reports (usual x.returns) usual_fuel false (run_latest 100 (usual x.returns) usual_fuel) _ refl;
  reads_past_the_end =
      reports (usual x.reads_past_the_end) usual_fuel false (run_latest 100 (usual x.reads_past_the_end) usual_fuel) _
      refl;
  writes_past_the_end =
      reports (usual x.writes_past_the_end) usual_fuel false (run_latest 100 (usual x.writes_past_the_end) usual_fuel) _
      refl;
  writes_before_the_start =
      reports (usual x.writes_before_the_start) usual_fuel false
      (run_latest 100 (usual x.writes_before_the_start) usual_fuel) _ refl;
}

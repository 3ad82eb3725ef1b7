-- Answers of repeat_program: the report has the count of what was reused of the memo, and the run's outcome.
use Rattle.std.proofs.Common.{ap}
use Rattle.std.specs.Prelude.{Ok}
use Rattle.mode_reports.proofs.repeats.repeat_program.Goals as goal

pub returns : goal.returns
returns c =
    let r = c.in_ok-run.ensures.reused in
    record {
      entries = r.0;
      memo = r.1;
      count = c.in_ok-run.run'.reused;
      reuses = r.2;
      outcome = c.in_ok-run.run'.outcome;
      has_outcome = c.in_ok-run.ensures.outcome;
      writes = ap (λ x. Ok x) c.in_ok-reused_report.ensures;
    }

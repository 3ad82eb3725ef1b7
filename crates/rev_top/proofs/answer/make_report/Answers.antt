-- Answers of make_report: the report of a refusal is what the refusal shows, and no run by threads is behind it.
use Rattle.std.specs.Prelude.{Some}
use Rattle.rev_report.specs.Report.{output}
use Rattle.rev_top.proofs.Rans.{refusal_made}
use Rattle.rev_top.proofs.answer.make_report.Goals as goal

pub returns-in_ok-report-in-Err-clause-report : goal.returns-in_ok-report-in-Err-clause-report
returns-in_ok-report-in-Err-clause-report g c =
    let h = c.in_ok-report-in-Err.ensures in
    refusal_made (Some c.args.words.now) _ _ c.in-Err.stop c.in-Err.ensures.meets h.0 h.1
    (output c.in_ok-report-in-Err.report) h.2

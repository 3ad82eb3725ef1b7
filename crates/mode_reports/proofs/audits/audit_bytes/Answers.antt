-- Answers of audit_bytes: bytes that are no trace leave with their fault, and a trace that was read is judged.
use Rattle.rev_syntax.specs.View.{program as whole}
use Rattle.trace_diagram.specs.declared.diagram.Trace.{Trace}
use Rattle.rev_report.specs.Report.{output}
use Rattle.mode_reports.specs.Answer.{setting}
use Rattle.mode_reports.specs.Traces.{Judges, ReadsTrace}
use Rattle.mode_reports.proofs.Stages.{goes_on, leaves}
use Rattle.mode_reports.proofs.audits.audit_bytes.Goals as goal

pub returns-in_err-trace : goal.returns-in_err-trace
returns-in_err-trace c =
    leaves (ReadsTrace c.args.bytes.now)
    (Judges (setting c.args.words.now (whole c.args.typed.now.expanded.program)) c.args.words.now.fuel)
    (λ (t : Trace). t) output
    _ c.in_err-trace.field-0.0 c.from_residual.ensures.1 c.in_err-trace.ensures.reads

pub returns : goal.returns
returns c =
    goes_on (ReadsTrace c.args.bytes.now)
    (Judges (setting c.args.words.now (whole c.args.typed.now.expanded.program)) c.args.words.now.fuel) output
    c.in_ok-trace.trace c.judge.result c.in_ok-trace.ensures.reads c.judge.ensures

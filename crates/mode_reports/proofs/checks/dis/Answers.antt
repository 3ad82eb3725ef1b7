-- Answers of dis: a file that is at fault leaves with its first fault, and checked code is listed.
use Rattle.code_verifier.specs.declared.verified.Verified.{Verified}
use Rattle.rev_report.specs.Report.{output}
use Rattle.mode_reports.specs.Answer.{Lists, SaysAs}
use Rattle.mode_reports.specs.Codes.{ChecksCode}
use Rattle.mode_reports.proofs.Stages.{goes_on, leaves}
use Rattle.mode_reports.proofs.checks.dis.Goals as goal

pub returns-in_err-code : goal.returns-in_err-code
unfolding SaysAs
returns-in_err-code c w =
    leaves (ChecksCode c.args.bytes.now) Lists (λ (v : Verified). v.code) output
    _ c.in_err-code.field-0.0 c.from_residual.ensures.1 c.in_err-code.ensures

pub returns : goal.returns
unfolding SaysAs
returns c w =
    goes_on (ChecksCode c.args.bytes.now) Lists output
    c.in_ok-code.code.code c.list.result c.in_ok-code.ensures c.list.ensures

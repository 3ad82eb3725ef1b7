-- Answers of exec: a file that is at fault leaves with its first fault, and checked code is run.
use Rattle.code_verifier.specs.declared.verified.Verified.{Verified}
use Rattle.rev_report.specs.Report.{output}
use Rattle.mode_reports.specs.Answer.{RunsCode, SaysAs}
use Rattle.mode_reports.specs.Codes.{ChecksCode}
use Rattle.mode_reports.proofs.Stages.{goes_on, leaves}
use Rattle.mode_reports.proofs.execs.exec.Goals as goal

pub returns-in_err-code : goal.returns-in_err-code
unfolding SaysAs
returns-in_err-code c =
    leaves (ChecksCode c.args.bytes.now) (RunsCode c.args.words.now) (λ (v : Verified). v.code) output
    _ c.in_err-code.field-0.0 c.from_residual.ensures.1 c.in_err-code.ensures

pub returns : goal.returns
unfolding SaysAs
returns c =
    goes_on (ChecksCode c.args.bytes.now) (RunsCode c.args.words.now) output
    c.in_ok-code.code.code c.exec_code.result c.in_ok-code.ensures c.exec_code.ensures

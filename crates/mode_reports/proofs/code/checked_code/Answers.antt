-- Answers of checked_code: bytes that are no file leave with their fault, and the code of a file is verified.
use Rattle.rev_code.specs.declared.code.Code.{Code}
use Rattle.code_verifier.specs.declared.verified.Verified.{Verified}
use Rattle.mode_reports.specs.Codes.{ChecksCode, KeepsCodeRules, ReadsFile}
use Rattle.mode_reports.proofs.Stages.{goes_on, leaves}
use Rattle.mode_reports.proofs.code.checked_code.Goals as goal

pub returns-in_err-code : goal.returns-in_err-code
unfolding ChecksCode
returns-in_err-code c =
    leaves (ReadsFile c.args.bytes.now) KeepsCodeRules (λ (x : Code). x) (λ (v : Verified). v.code)
    _ c.in_err-code.field-0.0 c.from_residual.ensures.1 c.in_err-code.ensures

pub returns : goal.returns
unfolding ChecksCode
returns c =
    goes_on (ReadsFile c.args.bytes.now) KeepsCodeRules
    (λ (v : Verified). v.code) c.in_ok-code.code c.verified.result c.in_ok-code.ensures c.verified.ensures

-- Answers of verified: the verifier's fault is the first rule on code that is broken.
use Rattle.code_verifier.specs.declared.verified.Verified.{Verified}
use Rattle.mode_reports.proofs.Codes.{no_rules}
use Rattle.mode_reports.proofs.code.verified.Goals as goal

pub returns-in-Err : goal.returns-in-Err
returns-in-Err c =
    no_rules (λ (v : Verified). v.code) c.args.code c.in-Err.fault c.of_code.result c.of_code.ensures
    c.in-Err.ensures.fault

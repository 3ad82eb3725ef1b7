-- Answers of audit: where the bytes cannot be split they are refused, and else their two parts are audited.
use Rattle.std.proofs.Common.{◌≡◌, ◌∙◌, ◌-◌, ℕ, List, take, drop, length, sym, ap, subst}
use Rattle.std.proofs.lemmas.List.{length-drop}
use Rattle.std.proofs.Math.Seq.{take-length}
use Rattle.rev_report.specs.Report.{output}
use Rattle.mode_reports.specs.Answer.{AuditsParts, SaysAs}
use Rattle.mode_reports.specs.Stops.{Meets}
use Rattle.mode_reports.specs.Traces.{Splits}
use Rattle.mode_reports.proofs.Stages.{goes_on, leaves}
use Rattle.mode_reports.proofs.audits.audit.Goals as goal

pub returns-in_err-at : goal.returns-in_err-at
unfolding SaysAs
returns-in_err-at c =
    leaves (Splits c.args.bytes.now) (AuditsParts c.args.words.now)
    (λ (at : ℕ). record { text = take at c.args.bytes.now; trace = drop at c.args.bytes.now }) output
    _ c.in_err-at.field-0.0 c.from_residual.ensures.1 c.in_err-at.ensures.splits

-- all from a place on
from_there : (at : ℕ) (bytes : List ℕ) → take (length bytes - at) (drop at bytes) ≡ drop at bytes
from_there at bytes = ap (λ (n : ℕ). take n (drop at bytes)) (sym (length-drop at bytes)) ∙ take-length (drop at bytes)

pub returns : goal.returns
unfolding SaysAs
returns c =
    let at = c.in_ok-at.at in
    let bytes = c.args.bytes.now in
    goes_on (Splits bytes) (AuditsParts c.args.words.now) output
    (record { text = take at bytes; trace = drop at bytes })
    c.audit_parts.result c.in_ok-at.ensures.splits
    (subst (λ (t : List ℕ).
    Meets output c.audit_parts.result (AuditsParts c.args.words.now (record { text = take at bytes; trace = t })))
    (from_there at bytes) c.audit_parts.ensures)

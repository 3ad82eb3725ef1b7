-- The trace of a program's runs, and what an audit makes of a source: the text of a program with a trace behind it.
use Rattle.std.specs.Prelude.{◌≡◌, ◌≤◌, ◌<◌, ℕ, List, [], length, Option, Some, None, Result, Ok, Err}
use Rattle.rev_report.specs.Modes.{agreed}
use Rattle.rev_report.specs.declared.refusal.Refusal.{Refusal}
use Rattle.rev_report.specs.declared.refusal.Refusal.TheVariants as refusals
use Rattle.rev_parse.specs.SmallTree.{most_bytes}
use Rattle.rev_report.specs.Report.{Output}
use Rattle.revision_calculus.specs.Program.{Setting}
use Rattle.trace_diagram.specs.Traces.{IsFirstFault, IsTextOf, trace_text}
use Rattle.trace_diagram.specs.declared.diagram.Trace.{Trace}
use Rattle.trace_diagram.specs.Dividing.{Divides}
use Rattle.audit_rules.specs.Verdicts.{Audits}
use Rattle.audit_rules.specs.declared.verdict.Verdict.{Verdict}
use Rattle.audit_rules.specs.declared.verdict.Verdict.TheVariants as verdict

-- the text of a trace, and nothing where there is none
abbrev pub text_of : Option Trace → List ℕ
text_of None = []
text_of (Some t) = trace_text t

-- ---- the parts of a source

pub record Parts : Type 0 where
  pub text : List ℕ
  pub trace : List ℕ

-- the parts of a source, whose text may have as many bytes as any
abbrev pub Splits : List ℕ → Result Parts Refusal → Type 0
Splits all (Ok p) = Divides all p.text p.trace × (length p.text ≤ most_bytes)
Splits all (Err f) =
    (f ≡ refusals.TooLong) × ((p : Parts) × Divides all p.text p.trace × (most_bytes < length p.text))

-- ---- the verdict

-- the trace of which the bytes are the text, or the place of their first fault
abbrev pub ReadsTrace : List ℕ → Result Trace Refusal → Type 0
ReadsTrace bytes (Ok t) = IsTextOf bytes t
ReadsTrace bytes (Err f) = (at : ℕ) × IsFirstFault bytes at × (f ≡ refusals.Trace at)

-- what is answered to a verdict
abbrev pub answer_of : Verdict → Result Output Refusal
answer_of verdict.Yes = Ok agreed
answer_of (verdict.No r stated computed) = Err (refusals.Differs r)

-- the answer to the verdict of the trace
abbrev pub Judges : Setting → (fuel : ℕ) → Trace → Result Output Refusal → Type 0
Judges s fuel t a = (v : Verdict) × Audits s fuel t v × (a ≡ answer_of v)

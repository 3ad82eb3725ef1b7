-- Verdicts of bytes that are a trace text.
--   SameVerdict    two verdicts say the same
--   HasOneVerdict  what an audit says of bytes
-- and the laws of these.
use Rattle.std.specs.Prelude.{◌≡◌, ℕ, List}
use Rattle.revision_calculus.specs.Program.{Setting}
use Rattle.trace_diagram.specs.Traces.{IsTextOf, IsTraceText}
use Rattle.trace_diagram.specs.declared.diagram.Trace.{Trace}
use Rattle.audit_rules.specs.Traces.{SameStated, SameTrace}
use Rattle.audit_rules.specs.Verdicts.{Audits}
use Rattle.audit_rules.specs.declared.verdict.Verdict.{Verdict}
use Rattle.audit_rules.specs.declared.verdict.Verdict.TheVariants as verdict

-- both say yes, or both say no of one revision, with the same stated and one computed part
abbrev pub SameVerdict : Verdict → Verdict → Type 0
SameVerdict verdict.Yes verdict.Yes = Unit {0}
SameVerdict verdict.Yes (verdict.No q stated c) = ⊥
SameVerdict (verdict.No r stated c) verdict.Yes = ⊥
SameVerdict (verdict.No r stated c) (verdict.No q stated' d) = (r ≡ q) × SameStated stated stated' × (c ≡ d)

-- ---- laws

-- traces of which the same bytes are the text are the same by their texts
abbrev pub TextsHaveOneTrace : Type 0
TextsHaveOneTrace =
    (bytes : List ℕ) (t t' : Trace) → IsTextOf bytes t → IsTextOf bytes t' → SameTrace t.parts t'.parts

-- audits of traces that are the same by their texts say the same
abbrev pub SameTracesHaveSame : Setting → ℕ → Type 0
SameTracesHaveSame s fuel =
    (t t' : Trace) (v v' : Verdict) → SameTrace t.parts t'.parts → Audits s fuel t v → Audits s fuel t' v'
    → SameVerdict v v'

-- audits of traces of which the same bytes are the text say the same
abbrev pub TextsHaveOneVerdict : Setting → ℕ → Type 0
TextsHaveOneVerdict s fuel =
    (bytes : List ℕ) (t t' : Trace) (v v' : Verdict) → IsTextOf bytes t → IsTextOf bytes t' → Audits s fuel t v
    → Audits s fuel t' v' → SameVerdict v v'

-- the bytes are the text of a trace with this verdict, and each audit of a trace of which they are
-- the text says the same
pub record HasOneVerdict (s : Setting) (fuel : ℕ) (bytes : List ℕ) : Type 0 where
  pub trace : Trace
  pub text : IsTextOf bytes trace
  pub verdict_is : Verdict
  pub is : Audits s fuel trace verdict_is
  pub only : (t : Trace) (v : Verdict) → IsTextOf bytes t → Audits s fuel t v → SameVerdict v verdict_is

-- what is a trace text has one verdict
abbrev pub EachTextHasOne : Setting → ℕ → Type 0
EachTextHasOne s fuel = (bytes : List ℕ) → IsTraceText bytes → HasOneVerdict s fuel bytes

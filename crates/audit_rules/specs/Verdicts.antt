-- What a verdict says of a trace, and the laws of verdicts.
use Rattle.std.specs.Prelude.{◌≡◌, ℕ, List}
use Rattle.rev_num.specs.Path.{Path}
use Rattle.revision_machine.specs.Machine.{Global, Complete}
use Rattle.revision_calculus.specs.Program.{Setting}
use Rattle.revision_calculus.specs.State.{Local}
use Rattle.revision_calculus.specs.Calculus.{calculus}
use Rattle.revision_calculus.specs.Complete.{start_of}
use Rattle.trace_diagram.specs.Traces as form
use Rattle.trace_diagram.specs.declared.diagram.Part.{Part}
use Rattle.trace_diagram.specs.declared.diagram.Trace.{Trace}
use Rattle.audit_rules.specs.Audited.{Computed, absent, made, joined_twice, missing}
use Rattle.audit_rules.specs.Traces.{IsTold, IsTrace, SaysNo, SaysYes, SameTrace}
use Rattle.audit_rules.specs.declared.verdict.Computed.TheVariants as computed
use Rattle.audit_rules.specs.declared.verdict.Verdict.{Verdict}
use Rattle.audit_rules.specs.declared.verdict.Verdict.TheVariants as verdict

abbrev pub computed_part : computed.the_data → Computed Part
computed_part computed.Absent = absent
computed_part (computed.Part p) = made p
computed_part computed.Twice = joined_twice
computed_part computed.Missing = missing

-- what an audit of the trace answers, for a program with this fuel
abbrev pub Audits : Setting → ℕ → Trace → Verdict → Type 0
Audits s fuel t verdict.Yes = SaysYes s fuel t.parts
Audits s fuel t (verdict.No r stated c) = SaysNo s fuel t.parts r stated (computed_part c)

-- a yes to what has the form of a trace tells of the end of every complete run
abbrev pub YesIsTrue : Setting → ℕ → Type 0
YesIsTrue s fuel =
    (t : Trace) → form.IsTrace t → Audits s fuel t verdict.Yes → (rs : List Path) (g : Global Local)
    → Complete (calculus s) (start_of s fuel) rs g → IsTold s t.parts g

-- the trace of the end of a complete run has a yes, and no other verdict
abbrev pub TraceIsYes : Setting → ℕ → Type 0
TraceIsYes s fuel =
    (rs : List Path) (g : Global Local) (trace : List Part) (t : Trace) → Complete (calculus s) (start_of s fuel) rs g
    → IsTrace s g trace → SameTrace t.parts trace → (v : Verdict) → Audits s fuel t v → v ≡ verdict.Yes

-- each trace has one verdict
pub record HasOneVerdict (s : Setting) (fuel : ℕ) (t : Trace) : Type 0 where
  pub verdict_is : Verdict
  pub is : Audits s fuel t verdict_is
  pub only : (v : Verdict) → Audits s fuel t v → v ≡ verdict_is

abbrev pub EachHasOne : Setting → ℕ → Type 0
EachHasOne s fuel = (t : Trace) → HasOneVerdict s fuel t

-- Laws of texts: that of `load` is a program, no program has a line that begins a trace, what is
-- written of a trace has the form of one, and a text with the trace of its runs behind it has the
-- audit `yes`.
use Rattle.std.specs.Prelude.{ℕ, ◌≡◌, ◌≤◌, List, ◌++◌, length, Some, Ok}
use Rattle.rev_words.specs.Load.{load_text}
use Rattle.rev_words.specs.Reading.{KeepsRanges, reading}
use Rattle.rev_words.specs.declared.Mode.TheVariants as modes
use Rattle.rev_words.specs.declared.Words.{Words}
use Rattle.rev_report.specs.Modes.{agreed}
use Rattle.rev_report.specs.Refusals.{shown}
use Rattle.rev_syntax.specs.Trees.{ProgramTree}
use Rattle.trace_diagram.specs.Traces.{IsTrace, IsWholeLines, trace_text}
use Rattle.trace_diagram.specs.declared.diagram.Trace.{Trace}
use Rattle.trace_diagram.specs.Dividing.{IsCutAt}
use Rattle.audit_rules.specs.Traced.{HasTrace}
use Rattle.mode_reports.specs.Answer.{Answer, Says, setting}
use Rattle.mode_reports.specs.declared.sizes.TheConstants.{FILE_LIMIT as file_limit, SOURCE_LIMIT as source_limit}
use Rattle.rev_top.specs.RanLaws.{IsRunStatus}
use Rattle.mode_reports.specs.Texts.{Checks}

-- the text that `load` makes is accepted, whatever the seed and the size
abbrev pub LoadIsAccepted : Type 0
LoadIsAccepted =
    (seed size : ℕ) → 1 ≤ size → size ≤ 500
    → (p : ProgramTree) × Checks (load_text seed size) (Ok p)

-- so an answer of `load` has the status of a run, and is no refusal
abbrev pub LoadEndsAsRuns : Type 0
LoadEndsAsRuns =
    (w : Words) → KeepsRanges w → w.mode ≡ modes.Load → (all : List ℕ) (a : Answer)
    → Says (Some w) all a → IsRunStatus (shown a).status

-- behind whole lines of a program no trace begins
abbrev pub NoProgramBeginsATrace : Type 0
NoProgramBeginsATrace =
    (text : List ℕ) (p : ProgramTree) → Checks text (Ok p)
    → (front back : List ℕ) → IsCutAt text front back → ⊥

-- What `trace` writes of a program of a text that is not too long has the form of a trace text,
-- with the numbers, the share and the fuel of words that have a reading.
abbrev pub TraceHasForm : Type 0
TraceHasForm =
    (words : List (List ℕ)) (w : Words) → reading words ≡ Some w → (text : List ℕ) (p : ProgramTree)
    → Checks text (Ok p)
    → length text ≤ source_limit → (t : Trace) → HasTrace (setting w p) w.fuel (Some t) → IsTrace t

-- The answer of `audit` to a program's text of whole lines and, behind it, the trace of its runs with
-- the numbers, the share and the fuel of the words is `yes`, where the two together are not too long.
abbrev pub AuditsOwnTrace : Type 0
AuditsOwnTrace =
    (words : List (List ℕ)) (w : Words) → reading words ≡ Some w → w.mode ≡ modes.Audit
    → (text : List ℕ) (p : ProgramTree)
    → Checks text (Ok p) → IsWholeLines text → length text ≤ source_limit
    → (t : Trace) → HasTrace (setting w p) w.fuel (Some t) → length (text ++ trace_text t) ≤ file_limit
    → Says (Some w) (text ++ trace_text t) (Ok agreed)

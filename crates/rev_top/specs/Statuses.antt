-- One answer to the same words and bytes, and why it has its status.
--
-- `OneAnswer`: there is one, and no other, but for the schedule that `order` writes; `StatusLaw`: 1, 2 and 3
-- have their causes, and come exactly there;
-- `ListingLaw`: what `dis` lists of bytes is the code of which they are the file.
use Rattle.std.specs.Prelude.{ℕ, List, ◌≡◌, ◌≤◌, ◌↔◌, ◌⊎◌, length, Option, Some, None, Ok, Err}
use Rattle.rev_num.specs.declared.outcome.Outcome.{Outcome}
use Rattle.rev_num.specs.declared.outcome.Outcome.TheVariants as o
use Rattle.rev_words.specs.Load.{load_text}
use Rattle.rev_words.specs.Reading.{reading}
use Rattle.rev_words.specs.declared.Mode.{Mode}
use Rattle.rev_words.specs.declared.Mode.TheVariants as modes
use Rattle.rev_words.specs.declared.Words.{Words}
use Rattle.rev_code.specs.declared.code.Code.{Code}
use Rattle.code_file.specs.Laws.{AreBytes, IsFile}
use Rattle.code_machine_laws.specs.Outcomes.{HasOutcome as HasCodeOutcome}
use Rattle.code_generation.specs.Generated.{code_of}
use Rattle.code_listing.specs.Listing.{listing}
use Rattle.code_runs.specs.Schedules.{IsLegal}
use Rattle.code_verifier.specs.Verdicts.{KeepsRules}
use Rattle.rev_report.specs.Report.{Output, done}
use Rattle.rev_report.specs.Refusals.{shown}
use Rattle.rev_report.specs.Status.{refused_status, trapped_status, twice_status}
use Rattle.rev_report.specs.declared.refusal.Refusal.{Refusal}
use Rattle.rev_syntax.specs.Trees.{ProgramTree}
use Rattle.revision_calculus.specs.Complete.{HasOutcome}
use Rattle.trace_diagram.specs.declared.diagram.Trace.{Trace}
use Rattle.mode_reports.specs.Codes.{ChecksCode}
use Rattle.mode_reports.specs.Schedules.{ReplaysCode}
use Rattle.mode_reports.specs.Texts.{Checks}
use Rattle.mode_reports.specs.Traces.{Judges, Parts, ReadsTrace, Splits}
use Rattle.affine_check.specs.Affine.{IsAffine}
use Rattle.mode_reports.specs.Affine.{KeepsAffine}
use Rattle.mode_reports.specs.Answer.{Answer, Fits, Says, code_run, reads_of, setting}
use Rattle.mode_reports.specs.declared.sizes.TheConstants.{FILE_LIMIT as file_limit}

-- ---- one answer

-- the one mode that has several answers: which schedule the threads make is left open
abbrev pub IsOrder : Option Words → Type 0
IsOrder None = ⊥
IsOrder (Some w) = w.mode ≡ modes.Order

-- they differ in what they write on standard output alone
pub record EndAlike (a b : Answer) : Type 0 where
  pub err : (shown a).err ≡ (shown b).err
  pub status : (shown a).status ≡ (shown b).status

pub record HasOneAnswer (words : Option Words) (all : List ℕ) : Type 0 where
  pub answer : Answer
  pub says : Says words all answer
  pub only : (IsOrder words → ⊥) → (a : Answer) → Says words all a → a ≡ answer
  pub alike : (a : Answer) → Says words all a → EndAlike a answer

-- to whatever words and bytes
abbrev pub OneAnswer : Type 0
OneAnswer = (texts : List (List ℕ)) (all : List ℕ) → HasOneAnswer (reading texts) all

-- ---- causes

-- a program that keeps all rules, and the outcome of every complete run of it
abbrev pub EndsAs : Words → (text : List ℕ) → Outcome → Type 0
EndsAs w text end = (p : ProgramTree) × Checks text (Ok p) × HasOutcome (setting w p) w.fuel end

-- code that keeps all rules, and its outcome
abbrev pub CodeEndsAs : Words → (file : List ℕ) → Outcome → Type 0
CodeEndsAs w file end = (c : Code) × ChecksCode file (Ok c) × HasCodeOutcome (code_run w c) w.fuel end

-- a program that keeps all rules, for whose code the schedule is legal, and the program's outcome
abbrev pub ReplayEndsAs : Words → (text : List ℕ) → Outcome → Type 0
ReplayEndsAs w text end =
    (p : ProgramTree) × Checks text (Ok p) × IsLegal (code_run w (code_of p)) w.fuel w.schedule
    × HasOutcome (setting w p) w.fuel end

-- a program that keeps all rules and the affine rule, and its outcome
abbrev pub StreamEndsAs : Words → (text : List ℕ) → Outcome → Type 0
StreamEndsAs w text end =
    (p : ProgramTree) × Checks text (Ok p) × IsAffine p × HasOutcome (setting w p) w.fuel end

-- the mode runs what it read, and this is the outcome
abbrev pub Ends : Mode → Words → List ℕ → Outcome → Type 0
Ends modes.Run w read end = EndsAs w read end
Ends modes.Check w read end = ⊥
Ends modes.Load w read end = EndsAs w (load_text w.seed w.size) end
Ends modes.Dis w read end = ⊥
Ends modes.Exec w read end = CodeEndsAs w read end
Ends modes.Emit w read end = ⊥
Ends modes.Trace w read end = EndsAs w read end
Ends modes.Audit w read end = ⊥
Ends modes.Replay w read end = ReplayEndsAs w read end
Ends modes.Order w read end = EndsAs w read end
Ends modes.Stream w read end = StreamEndsAs w read end
Ends modes.Repeat w read end = EndsAs w read end

-- what is at fault first in the parts of a source: the text is too long or no program, or the trace
-- is none, or it is not that of the program's runs
pub data IsAuditFault (w : Words) (all : List ℕ) (f : Refusal) : Type 0 where
  in_length : Splits all (Err f) → IsAuditFault w all f
  in_text : (p : Parts) → Splits all (Ok p) → Checks p.text (Err f) → IsAuditFault w all f
  in_trace : (p : Parts) → Splits all (Ok p) → (t : ProgramTree) → Checks p.text (Ok t)
      → ReadsTrace p.trace (Err f) → IsAuditFault w all f
  differs : (p : Parts) → Splits all (Ok p) → (t : ProgramTree) → Checks p.text (Ok t)
      → (trace : Trace) → ReadsTrace p.trace (Ok trace)
      → Judges (setting w t) w.fuel trace (Err f) → IsAuditFault w all f

-- what is at fault first of a text and a schedule: the text is no program, or an entry of the
-- schedule has no leg in its code
pub data IsReplayFault (w : Words) (text : List ℕ) (f : Refusal) : Type 0 where
  in_program : Checks text (Err f) → IsReplayFault w text f
  in_schedule : (p : ProgramTree) → Checks text (Ok p)
      → ReplaysCode (code_run w (code_of p)) w.fuel w.schedule (Err f) → IsReplayFault w text f

-- what is at fault first of a text that is to keep the affine rule: it is no program, or breaks it
pub data IsStreamFault (text : List ℕ) (f : Refusal) : Type 0 where
  in_text_of : Checks text (Err f) → IsStreamFault text f
  in_handles : (p : ProgramTree) → Checks text (Ok p) → KeepsAffine text p (Err f)
      → IsStreamFault text f

-- what the mode is given is at fault, first of all in this: the text of a program, a code file, a
-- text with a trace, or a schedule
abbrev pub IsFault : Mode → Words → List ℕ → Refusal → Type 0
IsFault modes.Run w read f = Checks read (Err f)
IsFault modes.Check w read f = Checks read (Err f)
IsFault modes.Load w read f = Checks (load_text w.seed w.size) (Err f)
IsFault modes.Dis w read f = ChecksCode read (Err f)
IsFault modes.Exec w read f = ChecksCode read (Err f)
IsFault modes.Emit w read f = Checks read (Err f)
IsFault modes.Trace w read f = Checks read (Err f)
IsFault modes.Audit w read f = IsAuditFault w read f
IsFault modes.Replay w read f = IsReplayFault w read f
IsFault modes.Order w read f = Checks read (Err f)
IsFault modes.Stream w read f = IsStreamFault read f
IsFault modes.Repeat w read f = Checks read (Err f)

-- something was run, and this is its outcome
pub record Ran (w : Words) (all : List ℕ) (end : Outcome) : Type 0 where
  pub read : List ℕ
  pub fits : Fits (reads_of w.mode) all (Ok read)
  pub ends : Ends w.mode w read end

abbrev pub IsTrap : Outcome → Type 0
IsTrap (o.Done text values) = ⊥
IsTrap (o.Trapped text values t) = Unit {0}
IsTrap o.Twice = ⊥

-- the source is too long, or else this is the first fault of what it gives
abbrev pub IsAtFault : Words → List ℕ → Refusal → Type 0
IsAtFault w all f = Fits (reads_of w.mode) all (Err f)
    ⊎ ((read : List ℕ) × Fits (reads_of w.mode) all (Ok read) × IsFault w.mode w read f)

-- 1 comes exactly where `main` trapped, 3 exactly where a revision was joined twice, and 2 exactly
-- where the source is too long or what it gives has a fault, whose message is written
pub record HasCauses (w : Words) (all : List ℕ) (a : Answer) : Type 0 where
  pub trapped : ((shown a).status ≡ trapped_status) ↔ ((end : Outcome) × Ran w all end × IsTrap end)
  pub twice : ((shown a).status ≡ twice_status) ↔ Ran w all o.Twice
  pub refused : ((shown a).status ≡ refused_status)
      ↔ ((f : Refusal) × IsAtFault w all f × (a ≡ Err f))

abbrev pub StatusLaw : Type 0
StatusLaw = (w : Words) (all : List ℕ) (a : Answer) → Says (Some w) all a → HasCauses w all a

-- ---- what `dis` lists

-- the bytes are the file of the code, which keeps all rules, and are not too many
pub record IsSoundFile (all : List ℕ) (c : Code) : Type 0 where
  pub spelled : IsFile c all
  pub keeps : KeepsRules c
  pub fits : length all ≤ file_limit

-- `dis` writes the listing of the code of which the bytes are the file, and nothing else where there
-- is such code
abbrev pub ListingLaw : Type 0
ListingLaw = (w : Words) → w.mode ≡ modes.Dis → (all : List ℕ) → AreBytes all → (o : Output)
    → Says (Some w) all (Ok o) ↔ ((c : Code) × IsSoundFile all c × (o ≡ done (listing c)))

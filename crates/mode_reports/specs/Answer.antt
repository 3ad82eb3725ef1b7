-- What a call answers, by its words and by the bytes that it reads.
--
-- `reads` is how much of the source a call reads. `SaysAs` is what each mode says of what it read,
-- stage after stage: the text, then the run; or the code file, then its listing or its run; or the
-- text, then the trace behind it, then its audit; or the text, then the schedule, then the run; or
-- the text, then what is written of the program. `Says` is the answer to words and bytes: usage,
-- then the length, then the mode; `Answers` is the same of a source, which may fail. What is handed
-- out of a run by threads stands in `Rans` of `rev_top`.
use Rattle.std.specs.Prelude.{ℕ, List, [], ◌≡◌, ◌≤◌, ◌<◌, ◌⊎◌, ◌+◌, false, length, Option, Some, None, Result, Ok, Err}
use Rattle.rev_io.specs.Stream.{Stream, Gave, GaveAtMost, Rose}
use Rattle.rev_num.specs.declared.outcome.Outcome.{Outcome}
use Rattle.rev_words.specs.Load.{load_text}
use Rattle.rev_words.specs.declared.Mode.{Mode}
use Rattle.rev_words.specs.declared.Mode.TheVariants as modes
use Rattle.rev_words.specs.declared.Words.{Words}
use Rattle.rev_report.specs.Report.{Output, done}
use Rattle.rev_report.specs.Outcome.{report}
use Rattle.rev_report.specs.Modes.{accepted, ordered, reused, summary, traced}
use Rattle.rev_report.specs.declared.refusal.Refusal.{Refusal}
use Rattle.rev_report.specs.declared.refusal.Refusal.TheVariants as refusals
use Rattle.rev_code.specs.declared.code.Code.{Code}
use Rattle.revision_machine.specs.Numbered.{World}
use Rattle.code_machine.specs.Local.{CodeRun, Local}
use Rattle.code_machine_laws.specs.Outcomes.{IsCompleteRun, HasOutcome as HasCodeOutcome}
use Rattle.code_memos.specs.Leaf.{Known}
use Rattle.rev_record.specs.MemoLaws.{MemoIn, ReusedIn}
use Rattle.code_file.specs.Files.{file_of}
use Rattle.code_generation.specs.Generated.{code_of}
use Rattle.code_listing.specs.Listing.{listing}
use Rattle.rev_syntax.specs.Trees.{ProgramTree}
use Rattle.revision_calculus.specs.Program.{Setting}
use Rattle.revision_calculus.specs.Complete.{HasOutcome}
use Rattle.trace_diagram.specs.declared.diagram.Trace.{Trace}
use Rattle.audit_rules.specs.Traced.{HasTrace}
-- the most bytes that a text may have, and a code file, or a text with a trace behind it
pub use Rattle.mode_reports.specs.declared.sizes.TheConstants.{SOURCE_LIMIT as source_limit, FILE_LIMIT as file_limit}
use Rattle.mode_reports.specs.Affine.{KeepsAffine}
use Rattle.mode_reports.specs.Codes.{ChecksCode}
use Rattle.mode_reports.specs.Schedules.{ReplaysCode}
use Rattle.mode_reports.specs.Stages.{Then}
use Rattle.mode_reports.specs.Texts.{Checks}
use Rattle.mode_reports.specs.Traces.{Judges, Parts, ReadsTrace, Splits, text_of}

abbrev pub Answer : Type 0
Answer = Result Output Refusal

-- ---- what a call reads

-- the whole source, which may have so many bytes, or none of it
abbrev pub reads_of : Mode → Option ℕ
reads_of modes.Run = Some source_limit
reads_of modes.Check = Some source_limit
reads_of modes.Load = None
reads_of modes.Dis = Some file_limit
reads_of modes.Exec = Some file_limit
reads_of modes.Emit = Some source_limit
reads_of modes.Trace = Some source_limit
reads_of modes.Audit = Some file_limit
reads_of modes.Replay = Some source_limit
reads_of modes.Order = Some source_limit
reads_of modes.Stream = Some source_limit
reads_of modes.Repeat = Some source_limit

-- words without a reading read nothing
abbrev pub reads : Option Words → Option ℕ
reads None = None
reads (Some w) = reads_of w.mode

-- ---- what a mode says

-- what a run of the program is given
abbrev pub setting : Words → ProgramTree → Setting
setting w p = record { program = p; inputs = w.numbers; share = w.share }

-- what is written of the outcome that every complete run of the program has
abbrev pub RunsTo : Words → (Outcome → Output) → ProgramTree → Answer → Type 0
RunsTo w write p a = (o : Outcome) × HasOutcome (setting w p) w.fuel o × (a ≡ Ok (write o))

-- the program keeps all rules, and no more is asked
abbrev pub Accepts : ProgramTree → Answer → Type 0
Accepts p a = a ≡ Ok accepted

-- the file of the program's code is written
abbrev pub Emits : ProgramTree → Answer → Type 0
Emits p a = a ≡ Ok (done (file_of (code_of p)))

-- the trace of the final state of every complete run of the program is written, with the message and
-- the status of their outcome
pub record Traces (w : Words) (p : ProgramTree) (a : Answer) : Type 0 where
  pub outcome : Outcome
  pub has_outcome : HasOutcome (setting w p) w.fuel outcome
  pub trace : Option Trace
  pub has_trace : HasTrace (setting w p) w.fuel trace
  pub writes : a ≡ Ok (traced (text_of trace) outcome)

-- the trace is read and audited
abbrev pub AuditsTrace : Words → (trace : List ℕ) → ProgramTree → Answer → Type 0
AuditsTrace w trace p = Then (ReadsTrace trace) (Judges (setting w p) w.fuel)

-- the text is checked, and then the trace behind it
abbrev pub AuditsParts : Words → Parts → Answer → Type 0
AuditsParts w p = Then (Checks p.text) (AuditsTrace w p.trace)

-- what running code is given
abbrev pub code_run : Words → Code → CodeRun
code_run w c = record { code = c; inputs = w.numbers; share = w.share }

-- what is written of the outcome that the code has, whatever the order of the legs of its revisions
abbrev pub RunsCode : Words → Code → Answer → Type 0
RunsCode w c a = (o : Outcome) × HasCodeOutcome (code_run w c) w.fuel o × (a ≡ Ok (report w.values o))

-- the program's code goes by the schedule; then the outcome that every complete run of the program
-- has is written, as of a run without a schedule
abbrev pub Replays : Words → ProgramTree → Answer → Type 0
Replays w p =
    Then (ReplaysCode (code_run w (code_of p)) w.fuel w.schedule)
    (λ world. RunsTo w (report w.values) p)

-- a complete schedule of the program's code is written, with the message and the status of the outcome
-- that every complete run of the program has
pub record Orders (w : Words) (p : ProgramTree) (a : Answer) : Type 0 where
  pub schedule : List ℕ
  pub world : World (Local ℕ)
  pub complete : IsCompleteRun (code_run w (code_of p)) w.fuel schedule world
  pub outcome : Outcome
  pub has_outcome : HasOutcome (setting w p) w.fuel outcome
  pub writes : a ≡ Ok (ordered schedule outcome)

-- the code keeps all rules, and its listing is written
abbrev pub Lists : Code → Answer → Type 0
Lists c a = a ≡ Ok (done (listing c))

-- the program keeps the affine rule, and what `run` writes of its outcome is written, without the
-- values
abbrev pub Streams : Words → (text : List ℕ) → ProgramTree → Answer → Type 0
Streams w text p = Then (KeepsAffine text p) (RunsTo w (report false))

-- the same code, with the input numbers of the run before
abbrev pub code_run_before : Words → Code → CodeRun
code_run_before w c = record { code = c; inputs = w.before; share = w.share }

-- entries are kept of the leaf revisions of the run before; in the run with the numbers so many leaf revisions have
-- a valid one; and behind that number what `run` writes of the program's outcome is written, without the values
pub record Repeats (w : Words) (p : ProgramTree) (a : Answer) : Type 0 where
  pub entries : List Known
  pub memo : MemoIn (code_run_before w (code_of p)) w.fuel entries
  pub count : ℕ
  pub reuses : ReusedIn (code_run w (code_of p)) w.fuel entries count
  pub outcome : Outcome
  pub has_outcome : HasOutcome (setting w p) w.fuel outcome
  pub writes : a ≡ Ok (reused count outcome)

-- what each mode says of the bytes that it read
unfoldable pub SaysAs : Mode → Words → List ℕ → Answer → Type 0
SaysAs modes.Run w text = Then (Checks text) (RunsTo w (report w.values))
SaysAs modes.Check w text = Then (Checks text) Accepts
SaysAs modes.Load w nothing =
    Then (Checks (load_text w.seed w.size)) (RunsTo w (summary w.seed w.size))
SaysAs modes.Dis w file = Then (ChecksCode file) Lists
SaysAs modes.Exec w file = Then (ChecksCode file) (RunsCode w)
SaysAs modes.Emit w text = Then (Checks text) Emits
SaysAs modes.Trace w text = Then (Checks text) (Traces w)
SaysAs modes.Audit w all = Then (Splits all) (AuditsParts w)
SaysAs modes.Replay w text = Then (Checks text) (Replays w)
SaysAs modes.Order w text = Then (Checks text) (Orders w)
SaysAs modes.Stream w text = Then (Checks text) (Streams w text)
SaysAs modes.Repeat w text = Then (Checks text) (Repeats w)

-- ---- the order of the refusals: words, read fault, length, and what the mode says

-- what is read of all bytes of a source that does not fail: all of them, if they are not too many
abbrev pub Fits : Option ℕ → List ℕ → Result (List ℕ) Refusal → Type 0
Fits None all found = found ≡ Ok []
Fits (Some limit) all (Ok text) = (text ≡ all) × (length all ≤ limit)
Fits (Some limit) all (Err f) = (f ≡ refusals.TooLong) × (limit < length all)

-- the answer to these words and to all bytes of a source that does not fail
abbrev pub Says : Option Words → List ℕ → Answer → Type 0
Says None all a = a ≡ Err refusals.Usage
Says (Some w) all a = Then (Fits (reads_of w.mode) all) (SaysAs w.mode w) a

-- what is read of a source: what it gave up to its end, or why that is nothing to go on with
abbrev pub Given : Option ℕ → Stream → Stream → Result (List ℕ) Refusal → Type 0
Given None old new found = (found ≡ Ok []) × (new ≡ old)
Given (Some limit) old new (Ok text) = Gave old text new × (length text ≤ limit)
    × ((all : List ℕ) → old.told ≡ Some all → all ≡ text)
Given (Some limit) old new (Err f) = ((f ≡ refusals.TooLong) × (new.faults ≡ old.faults)
    × ((all : List ℕ) → old.told ≡ Some all → limit < length all))
    ⊎ ((f ≡ refusals.ReadFault) × Rose old new)

-- this answer belongs to these words and to what the source gave
abbrev pub Answers : Option Words → Stream → Stream → Answer → Type 0
Answers None old new a = (a ≡ Err refusals.Usage) × (new ≡ old)
Answers (Some w) old new a = Then (Given (reads_of w.mode) old new) (SaysAs w.mode w) a

-- what any call takes of its source: nothing where it does not read it, and never more than one byte
-- past the limit
abbrev pub Takes : Option ℕ → Stream → Stream → Type 0
Takes None old new = new ≡ old
Takes (Some limit) old new = GaveAtMost (limit + 1) old new

-- so many bytes are not too many
abbrev pub IsWithin : Option ℕ → ℕ → Type 0
IsWithin None n = Unit {0}
IsWithin (Some limit) n = n ≤ limit

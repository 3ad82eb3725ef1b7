-- What happens in a call, and the run by threads that it hands out.
--
-- `goes_by_threads`: the modes that make a run; `Reports`: what each writes of it; `Leaves`: what stands beside an
-- answer; `Happened`: how the call went. What follows of the run that is handed out stands in `RanLaws`.
use Rattle.std.specs.Prelude.{ℕ, List, ◌≡◌, Bool, true, false, Option, Some, None, Ok, Err}
use Rattle.rev_io.specs.Stream.{Stream}
use Rattle.rev_words.specs.Load.{load_text}
use Rattle.rev_words.specs.declared.Mode.{Mode}
use Rattle.rev_words.specs.declared.Mode.TheVariants as modes
use Rattle.rev_words.specs.declared.Words.{Words}
use Rattle.rev_report.specs.Report.{Output}
use Rattle.rev_report.specs.Outcome.{report}
use Rattle.rev_report.specs.Status.{no_memory_status}
use Rattle.rev_report.specs.Modes.{ordered, summary}
use Rattle.rev_report.specs.Refusals.{shown}
use Rattle.rev_syntax.specs.Trees.{ProgramTree}
use Rattle.code_generation.specs.Generated.{code_of}
use Rattle.thread_runs.specs.declared.ran.Ran.{Ran}
use Rattle.thread_runs.specs.Runs.{IsRunOf, numbers_of}
use Rattle.mode_reports.specs.Answer.{Answer, Answers, Given, code_run, reads_of}
use Rattle.rev_top.specs.Delivery.{Delivered, NoReport}
use Rattle.mode_reports.specs.Texts.{Checks}

-- ---- the modes that make a run

abbrev pub goes_by_threads : Mode → Bool
goes_by_threads modes.Run = true
goes_by_threads modes.Check = false
goes_by_threads modes.Load = true
goes_by_threads modes.Dis = false
goes_by_threads modes.Exec = false
goes_by_threads modes.Emit = false
goes_by_threads modes.Trace = false
goes_by_threads modes.Audit = false
goes_by_threads modes.Replay = false
goes_by_threads modes.Order = true
goes_by_threads modes.Stream = false
goes_by_threads modes.Repeat = false

-- a run of the code of the program that the text is, which keeps all rules
pub record IsRunOfText (w : Words) (text : List ℕ) (r : Ran) : Type 0 where
  pub program : ProgramTree
  pub checked : Checks text (Ok program)
  pub is_run : IsRunOf (code_run w (code_of program)) w.fuel r

-- what is written of a run: the report of its outcome; or that behind a first line; or its schedule, with
-- the message and status of its outcome
abbrev pub of_run : Words → Ran → Output
of_run w r = report w.values r.outcome

abbrev pub of_load : Words → Ran → Output
of_load w r = summary w.seed w.size r.outcome

abbrev pub of_order : Ran → Output
of_order r = ordered (numbers_of r) r.outcome

-- the mode makes such a run of what it read, and writes this of it
abbrev pub Reports : Mode → Words → List ℕ → Ran → Output → Type 0
Reports modes.Run w text r o = IsRunOfText w text r × (o ≡ of_run w r)
Reports modes.Check w text r o = ⊥
Reports modes.Load w nothing r o =
    IsRunOfText w (load_text w.seed w.size) r × (o ≡ of_load w r)
Reports modes.Dis w file r o = ⊥
Reports modes.Exec w file r o = ⊥
Reports modes.Emit w text r o = ⊥
Reports modes.Trace w text r o = ⊥
Reports modes.Audit w all r o = ⊥
Reports modes.Replay w text r o = ⊥
Reports modes.Order w text r o = IsRunOfText w text r × (o ≡ of_order r)
Reports modes.Stream w text r o = ⊥
Reports modes.Repeat w text r o = ⊥

-- ---- what stands beside an answer

-- beside an output: the run of which it was made, in a mode that makes one
abbrev pub Holds : Mode → Words → List ℕ → Option Ran → Output → Type 0
Holds m w read None o = goes_by_threads m ≡ false
Holds m w read (Some r) o = Reports m w read r o

-- beside an answer to these words and to what the source gave; there is none beside a refusal
abbrev pub Leaves : Option Words → Stream → Stream → Option Ran → Answer → Type 0
Leaves words old new ran (Err f) = ran ≡ None
Leaves None old new ran (Ok o) = ⊥
Leaves (Some w) old new ran (Ok o) =
    (read : List ℕ) × Given (reads_of w.mode) old new (Ok read) × Holds w.mode w read ran o

-- ---- how a call goes

-- a call made an answer that belongs to its words and to what the source gave,
-- with what stands beside it, and delivered
-- it; or memory ran out before
pub data Happened (words : Option Words) (source source' out out' err err' : Stream) (ran : Option Ran)
    (status : ℕ) : Type 0 where
  answered : (a : Answer) → Answers words source source' a → Leaves words source source' ran a
      → Delivered (shown a) out out' err err' status
      → Happened words source source' out out' err err' ran status
  no_report : status ≡ no_memory_status → ran ≡ None → NoReport out out' err err'
      → Happened words source source' out out' err err' ran status

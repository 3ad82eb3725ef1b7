-- What the functions of the call say of a report and of the run of which it was made.
--
-- The contracts of private functions alone cite this: what a caller has to know is `Happened`.
use Rattle.std.specs.Prelude.{List, ℕ, ◌≡◌, Option, Some, None, Result, Ok, Err}
use Rattle.rev_io.specs.Stream.{Stream}
use Rattle.rev_words.specs.declared.Words.{Words}
use Rattle.rev_report.specs.Report.{Output, output}
use Rattle.rev_report.specs.declared.report.Report.{Report}
use Rattle.rev_report.specs.Refusals.{shown}
use Rattle.rev_report.specs.declared.refusal.Refusal.{Refusal}
use Rattle.rev_syntax.specs.Trees.{ProgramTree}
use Rattle.code_generation.specs.Generated.{code_of}
use Rattle.revision_calculus.specs.Complete.{HasOutcome}
use Rattle.thread_runs.specs.declared.ran.Ran.{Ran}
use Rattle.thread_runs.specs.Runs.{IsRunOf}
use Rattle.mode_reports.specs.Answer.{Answer, Answers, code_run, setting}
use Rattle.rev_top.specs.Rans.{Leaves}
use Rattle.mode_reports.specs.Stages.{Then}
use Rattle.mode_reports.specs.Texts.{Checks}
use Rattle.rev_top.specs.declared.made.Made.{Made}
use Rattle.mode_reports.specs.declared.stop.Stop.{Stop}

-- a report, and the run of which it was made
pub record Told : Type 0 where
  pub output : Output
  pub ran : Option Ran

abbrev pub said : Made → Output
said m = output m.report

abbrev pub told : Made → Told
told m = record { output = output m.report; ran = m.ran }

-- what is written of a run of the program's code, whose outcome every complete run of the program has
pub record RunsBy (w : Words) (write : Ran → Output) (p : ProgramTree) (t : Result Told Refusal) : Type 0 where
  pub run : Ran
  pub is_run : IsRunOf (code_run w (code_of p)) w.fuel run
  pub has_outcome : HasOutcome (setting w p) w.fuel run.outcome
  pub writes : t ≡ Ok (record { output = write run; ran = Some run })

-- the same of the program that a text is
abbrev pub RunsText : Words → (Ran → Output) → List ℕ → Result Told Refusal → Type 0
RunsText w write text = Then (Checks text) (RunsBy w write)

-- a report without a run
abbrev pub without_run : Result Report Stop → Result Made Stop
without_run (Ok r) = Ok (record { report = r; ran = None })
without_run (Err e) = Err e

-- the output is what is shown of an answer that belongs there, and this stands beside it
abbrev pub IsMade : Option Words → Stream → Stream → Option Ran → Output → Type 0
IsMade words old new ran o =
    (a : Answer) × Answers words old new a × Leaves words old new ran a × (o ≡ shown a)

-- What standard output takes in a call that prints as it runs.
use Rattle.std.specs.Prelude.{ℕ, List, ◌≡◌, Option, Some, Ok}
use Rattle.rev_io.specs.Stream.{Stream, TookSome}
use Rattle.rev_num.specs.declared.outcome.Outcome.{Outcome}
use Rattle.rev_words.specs.declared.Mode.TheVariants as modes
use Rattle.rev_words.specs.declared.Words.{Words}
use Rattle.rev_syntax.specs.Trees.{ProgramTree}
use Rattle.affine_check.specs.Affine.{IsAffine}
use Rattle.revision_calculus.specs.Complete.{HasOutcome}
use Rattle.code_machine_laws.specs.Texts.{said}
use Rattle.thread_runs.specs.declared.ran.Ran.{Ran}
use Rattle.mode_reports.specs.Answer.{setting}
use Rattle.rev_top.specs.Rans.{Happened}
use Rattle.mode_reports.specs.Texts.{Checks}

-- of a program that keeps the affine rule: whatever happened in the call and whatever its status is,
-- `out` took a first part of what `main` has printed at the end of every complete run
abbrev pub PrintsFirstParts : Type 0
PrintsFirstParts =
    (w : Words) → w.mode ≡ modes.Stream → (source source' out out' err err' : Stream)
    → (ran : Option Ran) (status : ℕ)
    → Happened (Some w) source source' out out' err err' ran status
    → (text : List ℕ) → source.told ≡ Some text → (p : ProgramTree) → Checks text (Ok p) → IsAffine p
    → (end : Outcome) → HasOutcome (setting w p) w.fuel end → TookSome out (said end) out'

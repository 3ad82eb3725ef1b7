-- What `run` does with a program that keeps all rules, where nothing fails.
--
-- It follows from `Keeps.headline`, and can be read alone: of what texts are refused for, and of the
-- other modes, nothing stands here.
use Rattle.std.specs.Prelude.{ℕ, List, ◌≡◌, ◌≤◌, length, Option, Some}
use Rattle.rev_io.specs.Stream.{Stream, Rose}
use Rattle.rev_num.specs.declared.outcome.Outcome.{Outcome}
use Rattle.rev_words.specs.declared.Mode.TheVariants as modes
use Rattle.rev_words.specs.declared.Words.{Words}
use Rattle.rev_report.specs.Outcome.{report}
use Rattle.rev_syntax.specs.Trees.{ProgramTree}
use Rattle.revision_calculus.specs.Complete.{HasOutcome}
use Rattle.mode_reports.specs.Answer.{setting}
use Rattle.mode_reports.specs.declared.sizes.TheConstants.{SOURCE_LIMIT as source_limit}
use Rattle.rev_top.specs.Delivery.{Wrote}
use Rattle.rev_top.specs.Promises.{Calm}
pub use Rattle.rev_top.specs.Writes.{IsSound}

-- both sinks took the report of the outcome that every complete run of the program has, with the
-- input numbers, the share and the fuel of the words, and the status is the report's
pub record IsReportOf (w : Words) (p : ProgramTree) (out out' err err' : Stream) (status : ℕ) : Type 0 where
  pub outcome : Outcome
  pub has_outcome : HasOutcome (setting w p) w.fuel outcome
  pub wrote : Wrote (report w.values outcome) out out' err err' status

-- where the words say `run`, the source told such a text, which is not too long, and nothing failed
abbrev pub Accepted : Option Words → (source source' out out' err err' : Stream) → (status : ℕ) → Type 0
Accepted words source source' out out' err err' status =
    (w : Words) → words ≡ Some w → w.mode ≡ modes.Run
    → (text : List ℕ) → source.told ≡ Some text → length text ≤ source_limit
    → (sound : IsSound text) → (Rose source source' → ⊥) → Calm out out' err err' status
    → IsReportOf w sound.tree out out' err err' status

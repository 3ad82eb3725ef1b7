-- How a run comes out that writes the text of `main` to `out` as it runs.
--
-- The contracts of private functions alone cite this: what a caller has to know is `Happened`.
use Rattle.std.specs.Prelude.{ℕ, ◌≡◌, ◌⊎◌, false, Result, Ok, Err}
use Rattle.rev_io.specs.Stream.{Stream, Rose, Took, TookSome}
use Rattle.rev_num.specs.declared.outcome.Outcome.{Outcome}
use Rattle.rev_words.specs.declared.Words.{Words}
use Rattle.rev_report.specs.Outcome.{report}
use Rattle.rev_report.specs.Status.{no_memory_status}
use Rattle.rev_report.specs.Refusals.{shown}
use Rattle.rev_syntax.specs.Trees.{ProgramTree}
use Rattle.revision_calculus.specs.Complete.{HasOutcome}
use Rattle.world_streams.specs.declared.fault.StreamFault.{StreamFault}
use Rattle.world_streams.specs.declared.fault.StreamFault.TheVariants as stream
use Rattle.mode_reports.specs.Answer.{setting}
use Rattle.rev_top.specs.Delivery.{Delivered, NoReport}
use Rattle.mode_reports.specs.declared.stop.Stop.{Stop}
use Rattle.mode_reports.specs.declared.stop.Stop.TheVariants as stops

-- at the end `out` took all of the text of the outcome; else a first part of it, and its count rose
-- exactly where it failed
abbrev pub Streamed : Outcome → Stream → Stream → Result Outcome StreamFault → Type 0
Streamed end old new (Ok x) = (x ≡ end) × Took old (report false end).out new
Streamed end old new (Err stream.Sink) = Rose old new × TookSome old (report false end).out new
Streamed end old new (Err stream.OutOfMemory) =
    (new.faults ≡ old.faults) × TookSome old (report false end).out new

-- so it is of the outcome that every complete run of the program has
abbrev pub StreamsOutcome : Words → ProgramTree → Stream → Stream → Result Outcome StreamFault → Type 0
StreamsOutcome w p old new r =
    (end : Outcome) → HasOutcome (setting w p) w.fuel end → Streamed end old new r

-- the report of that outcome was delivered, without the values
pub record DeliversOutcome (w : Words) (p : ProgramTree) (out out' err err' : Stream) (status : ℕ)
    : Type 0 where
  pub outcome : Outcome
  pub has_outcome : HasOutcome (setting w p) w.fuel outcome
  pub delivered : Delivered (report false outcome) out out' err err' status

-- a refusal was delivered, or memory ran out
abbrev pub DeliversRefusal : Stop → (out out' err err' : Stream) → ℕ → Type 0
DeliversRefusal (stops.Refused f) out out' err err' status =
    Delivered (shown (Err f)) out out' err err' status
    ⊎ ((status ≡ no_memory_status) × NoReport out out' err err')
DeliversRefusal stops.OutOfMemory out out' err err' status =
    (status ≡ no_memory_status) × NoReport out out' err err'

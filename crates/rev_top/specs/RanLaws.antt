-- What the run that a call hands out is, as it follows from what happened.
--
-- `RanSays`: whatever the status; `RanLaw`: of every call.
use Rattle.std.specs.Prelude.{ℕ, List, ◌≡◌, ◌⊎◌, true, false, Option, Some, None, Ok, is_some}
use Rattle.rev_io.specs.Stream.{Stream}
use Rattle.rev_words.specs.declared.Words.{Words}
use Rattle.rev_report.specs.Report.{Output}
use Rattle.rev_report.specs.Status.{done_status, trapped_status, twice_status}
use Rattle.thread_runs.specs.declared.ran.Ran.{Ran}
use Rattle.mode_reports.specs.Answer.{Fits, reads, reads_of}
use Rattle.rev_top.specs.Delivery.{Delivered, Wrote}
use Rattle.rev_top.specs.Promises.{IsRefused}
use Rattle.rev_top.specs.Rans.{Happened, Reports, goes_by_threads}

-- the source told all these bytes before; where a call reads nothing, nothing is asked of it
abbrev pub Tells : Option ℕ → Stream → List ℕ → Type 0
Tells None old all = Unit {0}
Tells (Some limit) old all = old.told ≡ Some all

-- the statuses of runs: done, trapped, or a revision was joined twice
abbrev pub IsRunStatus : ℕ → Type 0
IsRunStatus status = (status ≡ done_status) ⊎ ((status ≡ trapped_status) ⊎ (status ≡ twice_status))

-- the run that the mode makes of all these bytes, and this is written of it
pub record IsRunOfCall (words : Option Words) (all : List ℕ) (r : Ran) (o : Output) : Type 0 where
  pub word : Words
  pub said_by : words ≡ Some word
  pub read : List ℕ
  pub fits : Fits (reads_of word.mode) all (Ok read)
  pub reports : Reports word.mode word read r o

-- the run of the call, all of whose report was written
pub record IsReported (words : Option Words) (all : List ℕ) (r : Ran) (out out' err err' : Stream)
    (status : ℕ) : Type 0 where
  pub report : Output
  pub is_run : IsRunOfCall words all r report
  pub wrote : Wrote report out out' err err' status

-- the run of the call, whose report was delivered up to where a sink failed or memory ran out
pub record IsDelivered (words : Option Words) (all : List ℕ) (r : Ran) (out out' err err' : Stream)
    (status : ℕ) : Type 0 where
  pub report : Output
  pub is_run : IsRunOfCall words all r report
  pub delivered : Delivered report out out' err err' status

pub record RanSays (words : Option Words) (source out out' err err' : Stream) (ran : Option Ran) (status : ℕ)
    : Type 0 where
  -- a mode that makes a run hands it out behind each of 0, 1 and 3
  pub present : (w : Words) → words ≡ Some w → goes_by_threads w.mode ≡ true → IsRunStatus status → is_some ran ≡ true
  -- what is written is made from it
  pub reported : (r : Ran) → ran ≡ Some r → IsRunStatus status → (all : List ℕ) → Tells (reads words) source all
      → IsReported words all r out out' err err' status
  -- a refusal leaves none, nor does a mode that makes none
  pub refused : IsRefused status → ran ≡ None
  pub unread : words ≡ None → ran ≡ None
  pub other : (w : Words) → words ≡ Some w → goes_by_threads w.mode ≡ false → ran ≡ None
  -- whatever the status, what is handed out is the run of this call
  pub run : (r : Ran) → ran ≡ Some r → (all : List ℕ) → Tells (reads words) source all
      → IsDelivered words all r out out' err err' status
  -- where `out` took a byte in a mode that makes a run, it is there
  pub behind_bytes : (w : Words) → words ≡ Some w → goes_by_threads w.mode ≡ true
      → (held : List ℕ) → out.told ≡ Some held → (out'.told ≡ Some held → ⊥) → is_some ran ≡ true

-- of every call, whatever its words, its source and its sinks
abbrev pub RanLaw : Type 0
RanLaw =
    (words : Option Words) (source source' out out' err err' : Stream) (ran : Option Ran) (status : ℕ)
    → Happened words source source' out out' err err' ran status
    → RanSays words source out out' err err' ran status

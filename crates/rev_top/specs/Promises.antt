-- What the top call promises: `Keeps`, of the words, of what the source and both sinks tell before
-- and after the call, of the run that it hands out, and of its status.
use Rattle.std.specs.Prelude.{ℕ, List, [], ◌≡◌, ◌<◌, ◌⊎◌, ◌+◌, Option, Some, None}
use Rattle.rev_io.specs.Stream.{Stream, GaveAtMost, Rose, Took, TookSome}
use Rattle.rev_words.specs.declared.Words.{Words}
use Rattle.rev_report.specs.Report.{Output}
use Rattle.rev_report.specs.Refusals.{no_memory, shown}
use Rattle.rev_report.specs.Status.{no_memory_status, read_fault_status, refused_status, usage_status, write_fault_status}
use Rattle.mode_reports.specs.Answer.{Answer, Says, reads}
use Rattle.thread_runs.specs.declared.ran.Ran.{Ran}
use Rattle.rev_top.specs.Delivery.{Wrote}
use Rattle.rev_top.specs.Rans.{Happened}
use Rattle.rev_top.specs.Writes.{Writes}

-- the source told all these bytes before and did not fail; where a call reads nothing, nothing is
-- asked of it
abbrev pub Feeds : Option ℕ → Stream → Stream → List ℕ → Type 0
Feeds None old new all = Unit {0}
Feeds (Some limit) old new all = (old.told ≡ Some all) × (Rose old new → ⊥)

-- no sink failed, and memory was there
pub record Calm (out out' err err' : Stream) (status : ℕ) : Type 0 where
  pub wrote : Rose out out' → ⊥
  pub told : Rose err err' → ⊥
  pub room : status ≡ no_memory_status → ⊥

-- what is written for these words and bytes, and both sinks took all of it
pub record IsWritten (words : Option Words) (all : List ℕ) (out out' err err' : Stream) (status : ℕ)
    : Type 0 where
  pub output : Output
  pub writes : Writes words all output
  pub wrote : Wrote output out out' err err' status

-- an answer to these words and bytes, of which `out` took a first part, and `err` too, or one of the
-- message for want of memory
pub record IsPartOf (words : Option Words) (all : List ℕ) (out out' err err' : Stream) : Type 0 where
  pub answer : Answer
  pub says : Says words all answer
  pub on_out : TookSome out (shown answer).out out'
  pub on_err : TookSome err (shown answer).err err' ⊎ TookSome err no_memory err'

-- a sink failed, or memory ran out
abbrev pub Cut : ℕ → Type 0
Cut status = (status ≡ write_fault_status) ⊎ (status ≡ no_memory_status)

-- the words, the source, or what it gave was refused, or an entry of the schedule
abbrev pub IsRefused : ℕ → Type 0
IsRefused status = (status ≡ refused_status)
    ⊎ ((status ≡ usage_status) ⊎ (status ≡ read_fault_status))

pub record Keeps (words : Option Words) (source source' out out' err err' : Stream) (ran : Option Ran)
    (status : ℕ) : Type 0 where
  -- the call made an answer that belongs to its words and to what the source gave, with the run that
  -- it hands out, and delivered it, up to where a sink failed or memory ran out; or memory ran out
  -- before
  pub happened : Happened words source source' out out' err err' ran status
  -- where nothing failed, both sinks took what is written for the words and for all bytes that the
  -- source had left, and the status is its own
  pub headline : Calm out out' err err' status → (all : List ℕ)
      → Feeds (reads words) source source' all → IsWritten words all out out' err err' status
  -- usage comes only where the words have no reading; there nothing else comes but 6 and 7
  pub usage : status ≡ usage_status → words ≡ None
  pub no_reading : words ≡ None → (status ≡ usage_status) ⊎ Cut status
  -- what does not read its source leaves it untouched; at most one byte past the limit is read
  pub unread : reads words ≡ None → source' ≡ source
  pub most_read : (limit : ℕ) → reads words ≡ Some limit → GaveAtMost (limit + 1) source source'
  -- a read fault comes only where the source was read and failed; then nothing else comes but 6 and 7
  pub read_fault : status ≡ read_fault_status → (reads words ≡ None → ⊥) × Rose source source'
  pub source_failed : source.faults < source'.faults → (status ≡ read_fault_status) ⊎ Cut status
  -- a write fault comes only where a sink failed; then nothing else comes but 7, which comes only
  -- where it was `err`
  pub write_fault : status ≡ write_fault_status → Rose out out' ⊎ Rose err err'
  pub out_failed : out.faults < out'.faults → status ≡ write_fault_status
  pub err_failed : err.faults < err'.faults → Cut status
  -- a refusal writes nothing on `out`
  pub refusal : IsRefused status → Took out [] out'
  -- where memory ran out, both sinks hold a first part of the bytes of an answer to the words and to
  -- all bytes of the source, or `err` one of the message
  pub no_room : status ≡ no_memory_status → (all : List ℕ) → Feeds (reads words) source source' all
      → IsPartOf words all out out' err err'

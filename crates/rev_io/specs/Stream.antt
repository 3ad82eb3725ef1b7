-- What a source or a sink tells, and what a call does to it.
use Rattle.std.specs.Prelude.{ℕ, List, [], ◌++◌, ◌≡◌, ◌<◌, ◌≤◌, ◌⊎◌, ◌+◌, take, length, Option, Some, Result, Ok, Err, ⊤, Vec}
use Rattle.std.specs.Global.{Global}
use Rattle.rev_io.specs.declared.Failed.{Failed}
use Rattle.rev_io.specs.declared.SinkFault.{SinkFault}
use Rattle.rev_io.specs.declared.SinkFault.TheVariants as sink
use Rattle.rev_io.specs.declared.ReadText.{ReadText}
use Rattle.rev_io.specs.declared.ReadText.TheVariants as text

-- the bytes that a source has left or a sink holds, if it tells them, and its count of faults
pub record Stream : Type 0 where
  pub told : Option (List ℕ)
  pub faults : ℕ

abbrev pub greatest_count : ℕ
greatest_count = 18446744073709551615

-- the count of faults rose; one that stands at the greatest u64 counts as risen
abbrev pub Rose : Stream → Stream → Type 0
Rose old new = (old.faults < new.faults)
    ⊎ ((old.faults ≡ greatest_count) × (new.faults ≡ greatest_count))

-- ---- sources

-- these bytes, the first of those that the source had, left it
abbrev pub Leave : Stream → List ℕ → Stream → Type 0
Leave old bytes new = (all : List ℕ) → old.told ≡ Some all
    → (rest : List ℕ) × (new.told ≡ Some rest) × (all ≡ bytes ++ rest)

-- a source gave these bytes, and did not fail
pub record Gave (old : Stream) (bytes : List ℕ) (new : Stream) : Type 0 where
  pub told : Leave old bytes new
  pub calm : new.faults ≡ old.faults

-- one call of `read`: at `Ok n` the first n bytes of the room are what the source gave, and with room
-- n is 0 only at the end of a source that tells its bytes; at `Err` the count rose and nothing was taken
abbrev pub Reads : Stream → Stream → List ℕ → List ℕ → Result ℕ Failed → Type 0
Reads old new before after (Ok n) = (n ≤ length before) × Gave old (take n after) new
    × (n ≡ 0 → 0 < length before → (all : List ℕ) → old.told ≡ Some all → all ≡ [])
Reads old new before after (Err e) = Rose old new × (new.told ≡ old.told)

-- at most so many bytes left the source, whether or not it failed
abbrev pub GaveAtMost : ℕ → Stream → Stream → Type 0
GaveAtMost most old new = (bytes : List ℕ) × (length bytes ≤ most) × Leave old bytes new

-- all bytes up to the end of a source that tells them, at most `limit`; at most `limit + 1` bytes
-- were taken, and exactly so many where that is too long
abbrev pub ReadsText : ℕ → Stream → Stream → Result (Vec ℕ Global) ReadText → Type 0
ReadsText limit old new (Ok v) = Gave old v.items new × (length v.items ≤ limit)
    × ((all : List ℕ) → old.told ≡ Some all → all ≡ v.items)
ReadsText limit old new (Err text.TooLong) =
    (bytes : List ℕ) × (length bytes ≡ limit + 1) × Gave old bytes new
ReadsText limit old new (Err text.Fault) = Rose old new × GaveAtMost limit old new
ReadsText limit old new (Err text.OutOfMemory) =
    (new.faults ≡ old.faults) × GaveAtMost (limit + 1) old new

-- ---- sinks

-- a sink took these bytes, behind those that it held, and did not fail
pub record Took (old : Stream) (bytes : List ℕ) (new : Stream) : Type 0 where
  pub told : (held : List ℕ) → old.told ≡ Some held → new.told ≡ Some (held ++ bytes)
  pub calm : new.faults ≡ old.faults

-- one call of `write`: at `Ok n` the first n bytes were taken, and n is 0 only where there is none;
-- at `Err` nothing was taken, and the count rose exactly where the sink failed
abbrev pub Writes : Stream → Stream → List ℕ → Result ℕ SinkFault → Type 0
Writes old new piece (Ok n) =
    (n ≤ length piece) × (0 < length piece → 0 < n) × Took old (take n piece) new
Writes old new piece (Err sink.Failed) = Rose old new × (new.told ≡ old.told)
Writes old new piece (Err sink.OutOfMemory) = (new.faults ≡ old.faults) × (new.told ≡ old.told)

-- a sink took some first bytes of these
abbrev pub TookSome : Stream → List ℕ → Stream → Type 0
TookSome old bytes new = (held : List ℕ) → old.told ≡ Some held
    → (n : ℕ) × (new.told ≡ Some (held ++ take n bytes))

-- all of the bytes, or on a refusal a first part of them
abbrev pub WritesAll : Stream → Stream → List ℕ → Result ⊤ SinkFault → Type 0
WritesAll old new bytes (Ok u) = Took old bytes new
WritesAll old new bytes (Err sink.Failed) = Rose old new × TookSome old bytes new
WritesAll old new bytes (Err sink.OutOfMemory) = (new.faults ≡ old.faults) × TookSome old bytes new

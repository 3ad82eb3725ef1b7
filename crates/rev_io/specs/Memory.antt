-- What one call does to a source or a sink in memory.
use Rattle.std.specs.Prelude.{ℕ, List, ◌≡◌, ◌+◌, ◌++◌, take, drop, min, length, Contains, Some, None, Result, Ok, Err}
use Rattle.rev_io.specs.Stream.{Stream, greatest_count}
use Rattle.rev_io.specs.Stepped.{Feed, Store}
use Rattle.rev_io.specs.declared.Failed.{Failed}
use Rattle.rev_io.specs.declared.SinkFault.{SinkFault}
use Rattle.rev_io.specs.declared.SinkFault.TheVariants as sink

abbrev pub told_feed : Feed → Stream
told_feed s = record { told = Some s.left; faults = s.faults }

abbrev pub told_store : Store → Stream
told_store s = record { told = Some s.held; faults = s.faults }

-- of one that never fails
abbrev pub told_bytes : List ℕ → Stream
told_bytes bytes = record { told = Some bytes; faults = 0 }

-- of one that tells no bytes
abbrev pub untold : ℕ → Stream
untold faults = record { told = None; faults = faults }

-- one more, up to the greatest u64
abbrev pub raised : ℕ → ℕ
raised n = min (n + 1) greatest_count

-- a call whose number stands in `fails` fails, and any other gives as many bytes as the step, the
-- room and what is left allow
abbrev pub SteppedReads : Feed → Feed → List ℕ → List ℕ → Result ℕ Failed → Type 0
SteppedReads old new before after (Ok n) = ¬ Contains old.fails old.calls
    × (n ≡ min (min old.step (length before)) (length old.left))
    × (after ≡ take n old.left ++ drop n before)
    × (new ≡ record old { left = drop n old.left; calls = raised old.calls })
SteppedReads old new before after (Err e) = Contains old.fails old.calls
    × (new ≡ record old { calls = raised old.calls; faults = raised old.faults })

-- it gives as many bytes as there are, up to the room
abbrev pub CalmlyReads : List ℕ → List ℕ → List ℕ → List ℕ → Result ℕ Failed → Type 0
CalmlyReads old new before after (Ok n) = (n ≡ min (length before) (length old))
    × (after ≡ take n old ++ drop n before) × (new ≡ drop n old)
CalmlyReads old new before after (Err e) = ⊥

-- a call whose number stands in `fails` fails, and any other takes as many bytes as the step and
-- the piece allow, unless memory runs out
abbrev pub SteppedWrites : Store → Store → List ℕ → Result ℕ SinkFault → Type 0
SteppedWrites old new piece (Ok n) = ¬ Contains old.fails old.calls
    × (n ≡ min old.step (length piece))
    × (new ≡ record old { held = old.held ++ take n piece; calls = raised old.calls })
SteppedWrites old new piece (Err sink.Failed) = Contains old.fails old.calls
    × (new ≡ record old { calls = raised old.calls; faults = raised old.faults })
SteppedWrites old new piece (Err sink.OutOfMemory) = ¬ Contains old.fails old.calls
    × (new ≡ record old { calls = raised old.calls })

-- it takes all of the piece, unless memory runs out
abbrev pub CalmlyWrites : List ℕ → List ℕ → List ℕ → Result ℕ SinkFault → Type 0
CalmlyWrites old new piece (Ok n) = (n ≡ length piece) × (new ≡ old ++ piece)
CalmlyWrites old new piece (Err sink.Failed) = ⊥
CalmlyWrites old new piece (Err sink.OutOfMemory) = new ≡ old

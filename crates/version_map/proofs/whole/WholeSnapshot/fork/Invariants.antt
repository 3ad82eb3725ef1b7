-- Loops of Whole::fork: the words so far are those that the delta shows over the snapshot's, and both are kept.
use Rattle.std.proofs.Common.{◌≡◌, vec_len, slice_index}
use Rattle.version_map.specs.Overlay.{under, Agree}
use Rattle.version_map.proofs.whole.WholeSnapshot.fork.Given as goal

abbrev pub invariant-loop-location : goal.invariant-loop-location
invariant-loop-location l = (l.self ≡ l.initial.self) × (l.delta ≡ l.initial.delta)
    × (vec_len l.words ≡ l.location)
    × Agree l.location (slice_index l.words.items)
    (under l.initial.delta (slice_index l.initial.self.words.items))

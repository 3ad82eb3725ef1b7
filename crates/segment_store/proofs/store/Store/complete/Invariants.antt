-- Loops of Store::complete: the locations so far have their value or that of the words, the others are as at first.
use Rattle.std.proofs.Common.{◌≡◌, ℕ, ◌<◌, ◌≤◌, slice_index, Some}
use Rattle.version_map.specs.Deltas.{at, locations}
use Rattle.version_map.specs.Overlay.{word_or}
use Rattle.segment_store.proofs.store.Store.complete.Given as goal

abbrev pub invariant-loop-l : goal.invariant-loop-l
invariant-loop-l l = (locations l.delta ≡ locations l.initial.delta)
    × ((k : ℕ) → k < l.l
    → at l.delta k ≡ Some (word_or (slice_index l.words.items k) (at l.initial.delta k)))
    × ((k : ℕ) → l.l ≤ k → at l.delta k ≡ at l.initial.delta k)

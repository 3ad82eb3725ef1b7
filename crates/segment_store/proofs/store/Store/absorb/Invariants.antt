-- Loops of Store::absorb: the rows so far have taken in the segment's words, and the others are as at first.
use Rattle.std.proofs.Common.{◌≡◌, ℕ, ◌*◌, ◌<◌, ◌≤◌}
use Rattle.version_map.specs.Deltas.{at, locations}
use Rattle.segment_store.specs.Places.{view}
use Rattle.segment_store.specs.Same.{IsSameSeat}
use Rattle.segment_store.specs.Base.{IsTaken}
use Rattle.segment_store.proofs.store.Store.absorb.Given as goal

abbrev pub invariant-loop-row : goal.invariant-loop-row
invariant-loop-row l = IsSameSeat l.initial.seat l.seat
    × (locations l.into ≡ locations l.initial.into)
    × ((k : ℕ) → 64 * l.row ≤ k → at l.into k ≡ at l.initial.into k)
    × ((k : ℕ) → k < 64 * l.row → k < locations l.initial.into
    → IsTaken l.fn.self.words l.fn.self.stride l.fn.self.masks l.fn.segment k
    (view l.initial.seat).chain (at l.initial.into k) (at l.into k))

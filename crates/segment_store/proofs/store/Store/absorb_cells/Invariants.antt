-- Loops of Store::absorb_cells: the locations of the row so far are taken in, and all others are as at first.
use Rattle.std.proofs.Common.{◌≡◌, ℕ, ◌+◌, ◌-◌, ◌*◌, ◌<◌, ◌≤◌}
use Rattle.version_map.specs.Deltas.{at, locations}
use Rattle.segment_store.specs.Places.{view}
use Rattle.segment_store.specs.Same.{IsSameSeat}
use Rattle.segment_store.specs.Base.{IsTaken}
use Rattle.segment_store.proofs.store.Store.absorb_cells.Given as goal

abbrev pub invariant-loop-k : goal.invariant-loop-k
invariant-loop-k l = IsSameSeat l.initial.seat l.seat
    × (locations l.into ≡ locations l.initial.into) × (l.from ≤ 64)
    × ((k : ℕ) → 64 * l.fn.row + l.from ≤ k → at l.into k ≡ at l.initial.into k)
    × ((k : ℕ) → k < 64 * l.fn.row → at l.into k ≡ at l.initial.into k)
    × ((k : ℕ) → 64 * l.fn.row ≤ k → k < 64 * l.fn.row + l.from
    → IsTaken l.fn.self.words l.fn.self.stride l.fn.self.masks l.fn.segment k
    (view l.initial.seat).chain (at l.initial.into k) (at l.into k))

abbrev pub decreases-loop-k : goal.decreases-loop-k
decreases-loop-k l = 64 - l.from

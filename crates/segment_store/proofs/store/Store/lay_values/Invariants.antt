-- Loops of Store::lay_values: the seat has put the values of the locations so far, and no more.
use Rattle.std.proofs.Common.{ℕ, ◌-◌, ◌≤◌}
use Rattle.version_map.specs.Deltas.{locations}
use Rattle.segment_store.specs.Places.{view}
use Rattle.segment_store.specs.Same.{Becomes, IsAttached}
use Rattle.segment_store.specs.Base.{filled}
use Rattle.segment_store.specs.Filling.{Filling}
use Rattle.segment_store.proofs.store.Store.lay_values.Given as goal

abbrev pub invariant-loop-l : goal.invariant-loop-l
invariant-loop-l l = Becomes l.initial.seat l.seat (filled (view l.initial.seat) (view l.seat).made)
    × IsAttached l.seat l.fn.segment
    × ((parent : ℕ)
    → Filling l.fn.segment parent l.fn.self.masks l.fn.delta l.fn.self.masks 0 (view l.initial.seat).made
    → Filling l.fn.segment parent l.fn.self.masks l.fn.delta l.fn.self.masks l.from (view l.seat).made)
    × (l.from ≤ locations l.fn.delta)

abbrev pub decreases-loop-l : goal.decreases-loop-l
decreases-loop-l l = locations l.fn.delta - l.from

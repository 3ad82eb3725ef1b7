-- Loops of Store::absorb_chain: over the segments left the delta shows what it showed over the whole chain.
use Rattle.std.proofs.Common.{◌≡◌}
use Rattle.version_map.specs.Deltas.{locations}
use Rattle.segment_store.specs.Places.{view}
use Rattle.segment_store.specs.Same.{IsSameSeat}
use Rattle.segment_store.proofs.Taken.{Taking}
use Rattle.segment_store.proofs.store.Store.absorb_chain.Given as goal

abbrev pub invariant-loop-left : goal.invariant-loop-left
invariant-loop-left l = IsSameSeat l.initial.seat l.seat
    × (locations l.into ≡ locations l.initial.into)
    × Taking l.fn.self.initial.items l.fn.self.words l.fn.self.stride l.fn.self.masks l.at l.left
    (view l.initial.seat).chain l.initial.into l.into

abbrev pub decreases-loop-left : goal.decreases-loop-left
decreases-loop-left l = l.left

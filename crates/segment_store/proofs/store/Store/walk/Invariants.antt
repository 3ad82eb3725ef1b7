-- Loops of Store::walk: the chain from this segment on has at the location the value that the whole chain has.
use Rattle.segment_store.specs.Places.{view}
use Rattle.segment_store.specs.Same.{IsSameSeat}
use Rattle.segment_store.proofs.ChainWalks.{Going}
use Rattle.segment_store.proofs.store.Store.walk.Given as goal

abbrev pub invariant-loop-left : goal.invariant-loop-left
invariant-loop-left l = IsSameSeat l.initial.seat l.seat
    × Going l.fn.self.initial.items l.fn.self.words l.fn.self.stride l.fn.self.masks l.fn.location
    l.at l.left (view l.initial.seat).chain

abbrev pub decreases-loop-left : goal.decreases-loop-left
decreases-loop-left l = l.left

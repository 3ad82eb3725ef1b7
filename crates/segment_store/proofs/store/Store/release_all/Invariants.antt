-- Loops of Store::release_all: what is left of the chain is sound and the seat's, and all else is as at first.
use Rattle.segment_store.proofs.ChainWalks.{Falling}
use Rattle.segment_store.proofs.store.Store.release_all.Given as goal

abbrev pub invariant-loop-below : goal.invariant-loop-below
invariant-loop-below l = Falling l.fn.self.words l.fn.self.stride l.fn.self.masks l.at l.below
    l.initial.seat l.seat

abbrev pub decreases-loop-below : goal.decreases-loop-below
decreases-loop-below l = l.below

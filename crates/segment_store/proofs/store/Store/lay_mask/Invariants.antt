-- Loops of Store::lay_mask: the seat has put the mask words so far, and no more.
use Rattle.std.proofs.Common.{ℕ}
use Rattle.segment_store.specs.Places.{view}
use Rattle.segment_store.specs.Same.{Becomes, IsAttached}
use Rattle.segment_store.specs.Base.{filled}
use Rattle.segment_store.specs.Filling.{Filling}
use Rattle.segment_store.proofs.store.Store.lay_mask.Given as goal

abbrev pub invariant-loop-k : goal.invariant-loop-k
invariant-loop-k l = Becomes l.initial.seat l.seat (filled (view l.initial.seat) (view l.seat).made)
    × IsAttached l.seat l.fn.segment
    × ((parent : ℕ) → Filling l.fn.segment parent l.fn.self.masks l.fn.delta 0 0 (view l.initial.seat).made
    → Filling l.fn.segment parent l.fn.self.masks l.fn.delta l.k 0 (view l.seat).made)

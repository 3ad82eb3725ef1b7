-- Answers of Store::fork_own: the new seat has one hold and no chain, beside words of its own.
use Rattle.std.proofs.Common.{sym, subst}
use Rattle.segment_store.specs.declared.board.SegmentView.{SegmentView}
use Rattle.segment_store.specs.Base.{Rests}
use Rattle.segment_store.specs.Places.{room}
use Rattle.segment_store.proofs.Opens.{rests}
use Rattle.segment_store.proofs.store.Store.fork_own.Goals as goal

pub invariant_of-result-clause-rests : goal.invariant_of-result-clause-rests
invariant_of-result-clause-rests c = let s = c.args.self.now in
    subst (λ (v : SegmentView). Rests (room c.split_off-seat.result) s.stride s.masks 0 0 v)
    (sym c.split_off-seat.ensures.given.1) (rests _ _ _)

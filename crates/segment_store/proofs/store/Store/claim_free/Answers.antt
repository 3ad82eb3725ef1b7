-- Answers of Store::claim_free: the exchange on a free count is a claim that the rule allows where nothing is built.
use Rattle.std.proofs.Common.{ap}
use Rattle.segment_store.specs.declared.board.SegmentView.{SegmentView}
use Rattle.segment_store.specs.Places.{size_of}
use Rattle.sparse_table.proofs.Names.{of_named}
use Rattle.segment_store.proofs.Places.{part_in, ruled_in, some_stride, view_now}
use Rattle.segment_store.proofs.Wanted.{claim_backs, sole}
use Rattle.segment_store.proofs.Lifts.{claim}
use Rattle.segment_store.proofs.store.Store.claim_free.Goals as goal

pub exchange_head-found-requires : goal.exchange_head-found-requires
exchange_head-found-requires c = let s = c.args.self.now in let size = size_of s.table in let o = c.requires.own in
    record {
      own = (of_named s.table c.args.seat.now o.0, part_in s c.args.segment o.1);
      allowed = claim size.words size.stride size.masks (some_stride s) _ _ _ _ (ruled_in s c.args.segment o.1)
          c.requires.free.0 c.requires.free.1;
      backed = claim_backs size.words size.stride size.masks (some_stride s) _ _ _ c.args.segment;
    }

pub attach-requires-clause-sole : goal.attach-requires-clause-sole
attach-requires-clause-sole c = let s = c.args.self.now in let size = size_of s.table in
    let e = c.exchange_head-found.ensures in
    let claimed = view_now c.exchange_head-found.new.seat _ (e.told.0 c.if-found-ne0.false) in
    sole size.words size.stride size.masks (some_stride s) _ _ c.args.segment c.requires.own.1.0
    (ap (λ (v : SegmentView). v.build) claimed)

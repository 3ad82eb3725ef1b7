-- Answers of Store::join: to join a seat that is empty is a step that the rule allows to a seat that counts holds.
use Rattle.segment_store.specs.Places.{size_of}
use Rattle.sparse_table.proofs.Names.{of_named, still_named}
use Rattle.segment_store.proofs.Places.{some_stride}
use Rattle.segment_store.proofs.Lifts.{gather}
use Rattle.segment_store.proofs.store.Store.join.Goals as goal

pub join_seat-requires : goal.join_seat-requires
join_seat-requires c = let s = c.args.self.now in let size = size_of s.table in let o = c.requires.own in record {
  own = (of_named s.table c.args.seat.now o.0, of_named s.table c.args.other o.1);
  joins = gather size.words size.stride size.masks (some_stride s) _ _ _ _ c.requires.empty.0 c.requires.empty.1
      c.requires.some;
}

pub returns : goal.returns
returns c = let k = c.join_seat.ensures.own in
    (still_named c.args.seat.now c.join_seat.new.seat k.0, k.0.1, k.1)

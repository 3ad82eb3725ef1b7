-- Answers of Store::peek: a load of any count is a look that the rule allows.
use Rattle.segment_store.specs.Places.{size_of}
use Rattle.sparse_table.proofs.Names.{of_named, still_named}
use Rattle.segment_store.proofs.Places.{part_in, some_stride, view_same}
use Rattle.segment_store.proofs.Lifts.{looks}
use Rattle.segment_store.proofs.store.Store.peek.Goals as goal

pub load_head-requires : goal.load_head-requires
load_head-requires c = let s = c.args.self.now in let size = size_of s.table in let o = c.requires in record {
  own = (of_named s.table c.args.seat.now o.0, part_in s c.args.segment o.1);
  allowed = looks size.words size.stride size.masks (some_stride s) _ _ _ _;
}

pub returns : goal.returns
returns c = let k = c.load_head.ensures in (
  still_named c.args.seat.now c.load_head.new.seat k.own,
  k.own.1,
  view_same c.args.seat.now c.load_head.new.seat k.told.0,
)

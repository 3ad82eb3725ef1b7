-- Answers of Store::finds_free: a load of any count is a look that the rule allows.
use Rattle.segment_store.specs.Places.{size_of}
use Rattle.sparse_table.proofs.Names.{of_named}
use Rattle.segment_store.proofs.Places.{part_in, some_stride}
use Rattle.segment_store.proofs.Lifts.{find}
use Rattle.segment_store.proofs.store.Store.finds_free.Goals as goal

pub load_head-requires : goal.load_head-requires
load_head-requires c = let s = c.args.self.now in let size = size_of s.table in let o = c.requires.own in record {
  own = (of_named s.table c.args.seat.now o.0, part_in s c.args.segment o.1);
  allowed = find size.words size.stride size.masks (some_stride s) _ _ _ _;
}

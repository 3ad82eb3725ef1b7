-- Answers of Store::count: the load of the count of the chain's first segment is a look that the rule allows.
use Rattle.segment_store.specs.Places.{size_of}
use Rattle.sparse_table.proofs.Names.{of_named}
use Rattle.segment_store.proofs.Places.{part_in, some_stride}
use Rattle.segment_store.proofs.Lifts.{see}
use Rattle.segment_store.proofs.store.Store.count.Goals as goal

pub load_head-requires : goal.load_head-requires
load_head-requires c = let s = c.args.self.now in let size = size_of s.table in let o = c.requires.own in
    let b = o.1 in record {
      own = (of_named s.table c.args.seat.now o.0, part_in s c.args.segment b);
      allowed = see size.words size.stride size.masks (some_stride s) _ _ _ _ b.0 c.requires.head;
    }

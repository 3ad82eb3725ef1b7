-- Answers of Store::release_one: to take 1 from the count of the seat's first segment is a step the rule allows.
use Rattle.std.proofs.Common.{arith, ◌+◌, ◌-◌, ◌^◌, ◌%◌}
use Rattle.segment_store.specs.Places.{size_of}
use Rattle.sparse_table.proofs.Names.{of_named}
use Rattle.segment_store.proofs.Places.{part_in, some_stride}
use Rattle.segment_store.proofs.Wanted.{chain_backs, first_in}
use Rattle.segment_store.proofs.Lifts.{release}
use Rattle.segment_store.proofs.store.Store.release_one.Goals as goal

pub sub_head-requires : goal.sub_head-requires
sub_head-requires c = let s = c.args.self.now in let size = size_of s.table in let o = c.requires.own in
    let h = c.requires.head in record {
      own = (of_named s.table c.args.seat.now o.0, part_in s c.args.segment o.1, omega arith);
      allowed = release size.words size.stride size.masks (some_stride s) _ _ _ _ o.1.0 h.0 h.1;
      backed = chain_backs size.words size.stride size.masks (some_stride s) _ _ _ c.args.segment (λ n. (n + (2 ^ 64 -
          1)) % 2 ^ 64)
          (first_in _ c.args.segment o.1.0 h.0);
    }

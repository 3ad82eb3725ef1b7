-- Answers of Store::share: to add 1 to the count of the chain's first segment is a step that the rule allows.
use Rattle.std.proofs.Common.{◌+◌, eqb}
use prog.Atomic.{either}
use Rattle.segment_store.specs.Places.{size_of}
use Rattle.sparse_table.proofs.Names.{of_named}
use Rattle.segment_store.proofs.Places.{part_in, some_stride}
use Rattle.segment_store.proofs.Wanted.{chain_backs, first_in}
use Rattle.segment_store.proofs.Lifts.{share}
use Rattle.segment_store.proofs.store.Store.share.Goals as goal

pub exchange_head-requires : goal.exchange_head-requires
exchange_head-requires c = let s = c.args.self.now in let size = size_of s.table in let o = c.requires.own in
    let h = c.requires.head in record {
      own = (of_named s.table c.args.seat.now o.0, part_in s c.args.segment o.1);
      allowed = share size.words size.stride size.masks (some_stride s) 0 _ _ c.args.segment c.args.old o.1.0 h.0
          h.1 c.requires.few.0 c.requires.few.1;
      backed = chain_backs size.words size.stride size.masks (some_stride s) _ _ _ c.args.segment
          (λ n. either (eqb n c.args.old) (c.args.old + 1) n) (first_in _ c.args.segment o.1.0 h.0);
    }

-- Answers of Store::publish: to store a count of 2 in the segment that the seat has laid is a step the rule allows.
use Rattle.std.proofs.Common.{ℕ, sym, subst}
use Rattle.segment_store.specs.Places.{size_of, view}
use Rattle.segment_store.specs.Store.{first_of}
use Rattle.segment_store.specs.Base.{IsLaid}
use Rattle.sparse_table.proofs.Names.{of_named}
use Rattle.segment_store.proofs.Places.{part_in, some_stride}
use Rattle.segment_store.proofs.Wanted.{known_backs}
use Rattle.segment_store.proofs.Lifts.{publish}
use Rattle.segment_store.proofs.store.Store.publish.Goals as goal

pub store_head-requires : goal.store_head-requires
store_head-requires c = let s = c.args.self.now in let size = size_of s.table in let o = c.requires.own in
    let b = c.requires.built in record {
      own = (of_named s.table c.args.seat.now o.0, part_in s c.args.segment o.1);
      allowed = publish size.words size.stride size.masks (some_stride s) _ _ _ _ o.1.0 b.0 b.1 (
        c.requires.laid.0,
        subst (λ (z : ℕ × ℕ). IsLaid c.args.segment (first_of (view c.args.seat.now).chain) z.0 z.1
            c.requires.laid.0 (view c.args.seat.now).made)
            (λ i. (sym s.sized.2 i, sym s.masked i)) c.requires.laid.1,
      );
      backed = known_backs size.words size.stride size.masks (some_stride s) _ _ _ c.args.segment (λ _. 2) b.2;
    }

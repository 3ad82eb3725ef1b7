-- Answers of Store::put: to store a word inside of the segment that the seat builds is a step that the rule allows.
use Rattle.std.proofs.Common.{arith}
use Rattle.segment_store.specs.Places.{size_of}
use Rattle.sparse_table.proofs.Names.{of_named, still_named}
use Rattle.segment_store.proofs.Places.{word_in, word_fits, some_stride, still_there, view_now}
use Rattle.segment_store.proofs.Wanted.{known_there}
use Rattle.segment_store.proofs.Lifts.{put}
use Rattle.segment_store.proofs.store.Store.put.Goals as goal

pub store-requires : goal.store-requires
store-requires c = let s = c.args.self.now in let size = size_of s.table in let o = c.requires.own in
    let is = c.requires.built.0 in let b = o.1 in let lo = b.1 in let hi = b.2 in let pos = b.0.0 in
    let inside = b.0.2 in let z1 = s.sized.1 in let z2 = s.sized.2 in
    let fits = word_fits s c.args.segment c.args.i o.1 in record {
      own = (of_named s.table c.args.seat.now o.0, word_in s c.args.segment c.args.i o.1);
      there = known_there size.words size.stride size.masks (some_stride s) _ _ _ c.args.segment c.requires.built.1;
      allowed = put size.words size.stride size.masks (some_stride s) 0 _ _ c.args.i c.args.x
          (omega arith) (omega arith) (omega arith) (omega arith);
    }

pub returns-clause-view : goal.returns-clause-view
returns-clause-view c = let k = c.store.ensures in
    (still_named c.args.seat.now c.store.new.seat k.own, k.own.1, view_now c.store.new.seat _ k.told)

pub returns-clause-there : goal.returns-clause-there
returns-clause-there c = still_there c.args.seat.now c.store.new.seat c.args.segment c.store.ensures.own
    c.requires.built.1

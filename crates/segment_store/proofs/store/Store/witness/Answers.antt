-- Answers of Store::witness: to split off a seat that only names the table is a step that the rule allows.
use Rattle.std.proofs.Common.{◌∙◌, sym}
use Rattle.segment_store.specs.Places.{size_of}
use Rattle.sparse_table.proofs.Names.{of_named, named, still_named}
use Rattle.segment_store.proofs.Places.{some_stride}
use Rattle.segment_store.proofs.Lifts.{witness}
use Rattle.segment_store.proofs.store.Store.witness.Goals as goal

pub split_seat-requires : goal.split_seat-requires
split_seat-requires c = let s = c.args.self.now in let size = size_of s.table in record {
  own = of_named s.table c.args.seat.now c.requires.own;
  splits = witness size.words size.stride size.masks (some_stride s) _ _ c.requires.some;
}

pub returns-clause-kept : goal.returns-clause-kept
returns-clause-kept c = let k = c.split_seat.ensures.own in
    (still_named c.args.seat.now c.split_seat.new.seat k.0, k.0.1, k.1)

pub returns-clause-given : goal.returns-clause-given
returns-clause-given c = let g = c.split_seat.ensures.given in
    named c.args.self.now.table c.split_seat.result g.0 ∙ sym c.requires.own

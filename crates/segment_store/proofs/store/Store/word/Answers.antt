-- Answers of Store::word: to load a word of a segment of its chain is a look that the rule allows to each seat.
use Rattle.segment_store.specs.Places.{size_of}
use Rattle.sparse_table.proofs.Names.{of_named, still_named}
use Rattle.segment_store.proofs.Places.{word_in, some_stride, view_same}
use Rattle.segment_store.proofs.Wanted.{chain_there}
use Rattle.segment_store.proofs.Lifts.{looks}
use Rattle.segment_store.proofs.store.Store.word.Goals as goal

pub load-requires : goal.load-requires
load-requires c = let s = c.args.self.now in let size = size_of s.table in let o = c.requires.own in record {
  own = (of_named s.table c.args.seat.now o.0, word_in s c.args.segment c.args.i o.1);
  there = chain_there size.words size.stride size.masks (some_stride s) _ _ _ c.args.segment c.requires.link.1;
  allowed = looks size.words size.stride size.masks (some_stride s) _ _ _ _;
}

pub returns-clause-same : goal.returns-clause-same
returns-clause-same c = let k = c.load.ensures in
    (still_named c.args.seat.now c.load.new.seat k.own, k.own.1, view_same c.args.seat.now c.load.new.seat k.told.0)

pub returns-clause-word : goal.returns-clause-word
returns-clause-word c = c.load.ensures.told.1

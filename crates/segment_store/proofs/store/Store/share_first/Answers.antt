-- Answers of Store::share_first: the chain's first segment lies within the words, so its count may be raised.
use Rattle.std.proofs.Common.{◌∙◌}
use Rattle.segment_store.proofs.Links.{first_link}
use Rattle.segment_store.proofs.store.Store.share_first.Goals as goal

pub peek-count-requires : goal.peek-count-requires
peek-count-requires c = (
  c.requires.own,
  (first_link c.args.self.now c.args.seat.now c.args.first c.args.depth c.requires.rests.0
      c.requires.rests.1).0,
)

pub share-requires-clause-own : goal.share-requires-clause-own
share-requires-clause-own c = (
  c.peek-count.ensures.0 ∙ c.requires.own,
  (first_link c.args.self.now c.args.seat.now c.args.first c.args.depth c.requires.rests.0
      c.requires.rests.1).0,
)

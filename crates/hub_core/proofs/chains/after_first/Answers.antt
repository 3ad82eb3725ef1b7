-- Answers of after_first: a list of one has its first as its last, and the link of any other's first begins the rest.
use Rattle.std.proofs.lemmas.Option.{slice_get-get_or}
use Rattle.hub_core.proofs.Ways.{rest_none, rest_some}
use Rattle.hub_core.proofs.chains.after_first.Goals as goal

pub returns-then-chain : goal.returns-then-chain
returns-then-chain c = record { rest = λ ns h once. rest_none c.args.links.now c.args.chain ns h once c.if-chain.true }

pub returns : goal.returns
returns c = record {
  rest = λ ns h once.
      rest_some c.args.links.now c.args.chain ns _ h c.if-chain.false
      (slice_get-get_or c.args.links.now c.args.chain.first 0 c.requires);
}

-- Answers of cover: an empty list that is added at the end leaves what each number has.
use Rattle.std.proofs.Common.{◌∙◌, ap}
use Rattle.hub_core.specs.Chains.{chain_at}
use Rattle.hub_core.proofs.Ways.{chain_more}
use Rattle.hub_core.proofs.queueing.cover.Goals as goal

pub returns-then-len-many-clause-same : goal.returns-then-len-many-clause-same
returns-then-len-many-clause-same c =
    λ m. ap (λ l. chain_at l m) c.append.ensures.items ∙ chain_more c.args.waiters.now.items m

-- Answers of put_round: what stands at the number of the child is its round.
use Rattle.hub_core.proofs.Looking.{rounds_put}
use Rattle.hub_core.proofs.ordering.put_round.Goals as goal

pub returns-clause-at : goal.returns-clause-at
returns-clause-at c n =
    rounds_put c.args.rounds.now.items c.args.round.child
    record { joinee = c.args.round.joinee; forker = c.args.round.forker } c.requires n

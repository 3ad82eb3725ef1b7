-- Answers of joined: one link leads from the last of the one to the first of the other, and other lists stay.
use Rattle.std.proofs.Common.{subst}
use Rattle.hub_core.specs.Chains.{IsList}
use Rattle.hub_core.proofs.Ways.{chain_joined, list_put}
use Rattle.hub_core.proofs.chains.joined.Goals as goal

pub returns-in-Some-clause-chain : goal.returns-in-Some-clause-chain
returns-in-Some-clause-chain c = λ ms ns h i once.
    chain_joined c.args.links.now.items c.args.chain c.in-Some.next ms ns c.requires h
    (subst (λ l. IsList c.args.links.now.items l ns) c.in-Some.is i) once

pub returns-in-Some-clause-others : goal.returns-in-Some-clause-others
returns-in-Some-clause-others c =
    λ list ns none h. list_put c.args.links.now.items c.args.chain.last c.in-Some.next.first list ns none h

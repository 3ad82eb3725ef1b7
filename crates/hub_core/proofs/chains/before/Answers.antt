-- Answers of before: one link leads from the number to the old first, and lists without the number stay.
use Rattle.std.proofs.Common.{subst}
use Rattle.hub_core.specs.Chains.{IsList}
use Rattle.hub_core.proofs.Ways.{chain_before, list_put}
use Rattle.hub_core.proofs.chains.before.Goals as goal

pub returns-in-Some-clause-chain : goal.returns-in-Some-clause-chain
returns-in-Some-clause-chain c = λ ns h none.
    chain_before c.args.links.now.items c.args.number c.in-Some.chain ns c.requires none
    (subst (λ l. IsList c.args.links.now.items l ns) c.in-Some.is h)

pub returns-in-Some-clause-others : goal.returns-in-Some-clause-others
returns-in-Some-clause-others c =
    λ list ns none h. list_put c.args.links.now.items c.args.number c.in-Some.chain.first list ns none h

-- Answers of end_laws: what an end shows is told by the leg or join that made it, by one theorem for each clause.
use Rattle.code_machine.proofs.Showing.{own_traps, join_traps, by_the_end, ends_fit, merges_defined}
use Rattle.code_machine.proofs.laws.end_laws.Goals as goal

pub returns-clause-own : goal.returns-clause-own
returns-clause-own g c = λ run l s t e. own_traps run l s t e

pub returns-clause-joins : goal.returns-clause-joins
returns-clause-joins g c = λ run l j t is e. join_traps run l j t is e

pub returns-clause-by_the_end : goal.returns-clause-by_the_end
returns-clause-by_the_end g c = λ run l j k e. by_the_end run l j k e

pub returns-clause-fit : goal.returns-clause-fit
returns-clause-fit g c = λ run ok l p. ends_fit run ok l p

pub returns-clause-merges : goal.returns-clause-merges
returns-clause-merges g c =
    λ run ok n block kind is at x y z a b d. merges_defined run ok n block kind is at x y z a b d

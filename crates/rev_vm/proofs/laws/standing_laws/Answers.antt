-- Answers of standing_laws: four lemmas, that a runner, a joiner, an end and a claim stand for one state or end each.
use Rattle.rev_vm.proofs.Values.{one_claim, one_end, one_joining, one_state}
use Rattle.rev_vm.proofs.laws.standing_laws.Goals as goal

pub returns-clause-states : goal.returns-clause-states
returns-clause-states c = one_state

pub returns-clause-joiners : goal.returns-clause-joiners
returns-clause-joiners c = one_joining

pub returns-clause-ends : goal.returns-clause-ends
returns-clause-ends c = one_end

pub returns-clause-claims : goal.returns-clause-claims
returns-clause-claims c = one_claim

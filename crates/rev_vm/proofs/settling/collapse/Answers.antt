-- Answers of collapse: the last answer of collapsing all is Kept or Base, and what is seen stays the same.
use Rattle.rev_vm.proofs.settling.collapse.Goals as goal

pub collapse_all-answer-requires : goal.collapse_all-answer-requires
collapse_all-answer-requires g c = c.requires

pub returns-clause-collapsed : goal.returns-clause-collapsed
returns-clause-collapsed g c = (
  c.collapse_all-answer.result,
  c.collapse_all-answer.ensures.last,
  c.collapse_all-answer.ensures.answered,
)

pub returns-clause-size : goal.returns-clause-size
returns-clause-size g c = c.collapse_all-answer.ensures.size

pub returns-clause-group : goal.returns-clause-group
returns-clause-group g c = c.collapse_all-answer.ensures.group

pub returns-clause-locations : goal.returns-clause-locations
returns-clause-locations g c = c.collapse_all-answer.ensures.locations

pub returns-clause-base : goal.returns-clause-base
returns-clause-base g c = c.collapse_all-answer.ensures.base

-- Answers of pass_law: the pass and the rules in words refuse the same instruction first, or neither refuses any.
use Rattle.code_ways.proofs.Exact.{finds, refuses, accepts, passes}
use Rattle.code_ways.proofs.pass_law.Goals as goal

pub returns-clause-finds : goal.returns-clause-finds
returns-clause-finds c = λ code costs n b some at r. (finds code costs n b some at r, refuses code costs n b some at r)

pub returns-clause-accepts : goal.returns-clause-accepts
returns-clause-accepts c = λ code costs n b some. (λ h. accepts code costs n b some h.0 h.1, passes code costs n b some)

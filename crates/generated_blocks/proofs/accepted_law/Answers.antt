-- Answers of accepted_law: the tables are well and small and no instruction breaks a rule, so there is no fault.
use Rattle.generated_blocks.proofs.Accepted.{code_accepted}
use Rattle.generated_blocks.proofs.accepted_law.Goals as goal

pub returns : goal.returns
returns c = λ p h. code_accepted p h

-- Answers of code_outcome_law: code has a main, some schedule of it is complete, and complete ones agree.
use Rattle.code_machine_laws.proofs.Outcomes.{each_has_one}
use Rattle.code_machine_laws.proofs.code_outcome.code_outcome_law.Goals as goal

pub returns : goal.returns
returns c = each_has_one

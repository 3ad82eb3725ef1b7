-- Answers of whole_code_law: where the pass finds no fault each block has its certificate and keeps its limit.
use Rattle.code_soundness.proofs.Accepting.{no_fault_accepted, no_fault_costs}
use Rattle.code_soundness.proofs.soundness.whole_code_law.Goals as goal

pub returns-clause-accepted : goal.returns-clause-accepted
returns-clause-accepted c = no_fault_accepted

pub returns-clause-limits : goal.returns-clause-limits
returns-clause-limits c = no_fault_costs

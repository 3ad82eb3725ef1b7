-- Answers of condition_laws: each condition on counts, handles, weight and simulation is proved by instructions.
use Rattle.code_machine.proofs.Holding.{holding}
use Rattle.code_machine.proofs.MachineConditions.{counts, spends, pays}
use Rattle.code_machine.proofs.Numbering.{simulates}
use Rattle.code_machine.proofs.laws.condition_laws.Goals as goal

pub returns : goal.returns
returns c = record { counts = counts; handles = holding; spends = spends; pays = pays; simulates = simulates }

-- Answers of simulation_laws: the code of a program is accepted, and its legs are simulated by paths and by numbers.
use Rattle.generated_blocks.proofs.Accepted.{code_accepted}
use Rattle.program_meaning.proofs.Simulating.{code_simulated, numbers_simulated}
use Rattle.program_meaning.proofs.simulation.simulation_laws.Goals as goal

pub returns : goal.returns
returns c = record {
  paths = λ s well. code_simulated s well (code_accepted s.program well);
  numbers = λ s well. numbers_simulated s well (code_accepted s.program well);
}

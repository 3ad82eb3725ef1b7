-- Answers of leg_law: the code of a program is accepted, and each leg of accepted code has its steps in the calculus.
use Rattle.generated_blocks.proofs.Accepted.{code_accepted}
use Rattle.program_meaning.proofs.Legs.{legs_alike}
use Rattle.program_meaning.proofs.simulation.leg_law.Goals as goal

pub returns : goal.returns
returns c = λ s well r l d work kinded. legs_alike s well (code_accepted s.program well) r l d work kinded

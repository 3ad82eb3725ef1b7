-- Answers of instruction_law: the certificates keep each block in order: funs and merges, then bodies, then main.
use Rattle.generated_blocks.proofs.Whole.{instructions_accepted}
use Rattle.generated_blocks.proofs.instruction_law.Goals as goal

pub returns : goal.returns
returns c = λ p small fine well. instructions_accepted p small fine well

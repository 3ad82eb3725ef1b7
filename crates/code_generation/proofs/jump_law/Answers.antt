-- Answers of jump_law: all jumps of each declaration's block stay inside of it, and so do those of main.
use Rattle.code_generation.proofs.Inside.{jumps_stay}
use Rattle.code_generation.proofs.jump_law.Goals as goal

pub returns : goal.returns
returns c = jumps_stay

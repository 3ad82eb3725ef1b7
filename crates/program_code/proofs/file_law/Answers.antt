-- Answers of file_law: the code has no fault and few TryJoins, as the program is small, so its counts fit the fields.
use Rattle.program_code.proofs.Counting.{code_counted}
use Rattle.program_code.proofs.file_law.Goals as goal

pub returns : goal.returns
returns c = λ p h. code_counted p h

-- Answers of outcome_law: two lemmas, an outcome of the program is one of its code, and the other way round.
use Rattle.program_meaning.proofs.Outcomes.{of_program, of_code}
use Rattle.program_meaning.proofs.completion.outcome_law.Goals as goal

pub returns : goal.returns
returns c = λ s well fuel o. (λ h. of_program s well fuel o h, λ h. of_code s well fuel o h)

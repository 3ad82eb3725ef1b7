-- Answers of text_law: one lemma, by the number of steps, gives what is said behind the text of the state.
use Rattle.code_machine_laws.proofs.StepTexts.{reach_says}
use Rattle.code_machine_laws.proofs.steps.text_law.Goals as goal

pub returns : goal.returns
returns g c = λ s k x. reach_says s k x

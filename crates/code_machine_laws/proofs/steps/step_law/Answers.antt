-- Answers of step_law: one lemma gives each step of each state its form.
use Rattle.code_machine_laws.proofs.Forms.{step_form}
use Rattle.code_machine_laws.proofs.steps.step_law.Goals as goal

pub returns : goal.returns
returns g c = λ s x. step_form s x

-- Answers of choice_laws: the code lays out merges as the program does, so a chosen kernel's terms are the block's.
use Rattle.kernel_choices.proofs.Serving.{choices_serve}
use Rattle.kernel_choices.proofs.Applied.{no_definition}
use Rattle.kernel_choices.proofs.laws.choice_laws.Goals as goal

pub returns-clause-plan : goal.returns-clause-plan
returns-clause-plan c = choices_serve

pub returns-clause-none : goal.returns-clause-none
returns-clause-none c = no_definition

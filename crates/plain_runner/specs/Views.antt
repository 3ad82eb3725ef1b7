-- How a contract sees the language that a program runs by, and what a step of it answers.
use Rattle.rev_num.specs.Path.{Path}
use Rattle.revision_machine.specs.declared.one_step.StepOutcome.{StepOutcome}
use Rattle.revision_machine.specs.declared.state.GlobalState.{GlobalState}
use Rattle.revision_machine.specs.States.{global_of}
use Rattle.revision_machine.specs.StepOutcomes.{IsOutcome}
use Rattle.revision_calculus.specs.Program.{Setting}
use Rattle.revision_calculus.specs.State.{Local}
use Rattle.revision_calculus.specs.Calculus.{calculus}
use Rattle.revision_state.specs.Views.{given}
use Rattle.plain_runner.specs.declared.language.PlainLanguage.{PlainLanguage}

-- the calculus' setting
abbrev pub setting_of : PlainLanguage → Setting
setting_of l = given l.setting

-- the answer of a step of the revision at this path, and the state after it
abbrev pub StepAnswers : Setting → Path → GlobalState Local → GlobalState Local × StepOutcome → Type 0
StepAnswers s p before r = IsOutcome (calculus s) r.1 p (global_of before) (global_of r.0)

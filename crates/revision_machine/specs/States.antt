-- The global state that a state of the runner shows.
use Rattle.std.specs.Prelude.{List}
use Rattle.rev_num.specs.Path.{Path}
use Rattle.revision_machine.specs.Machine.{Global, Twice, Live}
use Rattle.revision_machine.specs.declared.state.RevisionRow.{RevisionRow}
use Rattle.revision_machine.specs.declared.one_step.StepOutcome.{StepOutcome}
use Rattle.revision_machine.specs.declared.one_step.StepOutcome.TheVariants as outcome
use Rattle.revision_machine.specs.declared.state.GlobalState.{GlobalState}
use Rattle.revision_machine.specs.declared.state.GlobalState.TheVariants as state
use Rattle.revision_machine.specs.RevisionList.{globe}
use Rattle.revision_machine.specs.StepOutcomes.{IsOutcome}
use Rattle.revision_machine.specs.Rules.{Rules, machine_of}

abbrev pub global_of : {L : Type 0} → GlobalState L → Global L
global_of state.Twice = Twice
global_of (state.Live revisions) = Live (globe revisions.list.items)

-- these revisions, or Twice if that is the answer
abbrev pub global_after : {L : Type 0} → StepOutcome → List (RevisionRow L) → Global L
global_after outcome.Twice revisions = Twice
global_after outcome.Moved revisions = Live (globe revisions)
global_after (outcome.Waits q) revisions = Live (globe revisions)
global_after outcome.Ended revisions = Live (globe revisions)
global_after outcome.NoSuch revisions = Live (globe revisions)

-- the answer of a step of the revision at this path, and the state after it
abbrev pub Answers : {L : Type 0} → Rules L → Path → GlobalState L → GlobalState L × StepOutcome → Type 0
Answers rules p s r = IsOutcome (machine_of rules) r.1 p (global_of s) (global_of r.0)

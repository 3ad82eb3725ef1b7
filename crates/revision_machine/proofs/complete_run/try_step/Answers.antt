-- Answers of try_step: what comes of the step at this place tells that it has moved, is stuck or has joined twice.
use Rattle.revision_machine.specs.Rules.{machine_of}
use Rattle.revision_machine.proofs.Steps.{revision_at}
use Rattle.revision_machine.proofs.Runs.{moved_at, twice_at, stuck_at}
use Rattle.revision_machine.proofs.complete_run.try_step.Goals as goal

pub returns-in-Twice-clause-progress : goal.returns-in-Twice-clause-progress
returns-in-Twice-clause-progress g c =
    let M = machine_of (g.L.Language.rules c.args.language.now) in
    twice_at M c.in_ok-step_at.field-0 c.args.place c.args.list.now.items c.step_at.new.list.items
    (revision_at c.args.list.now.items c.args.place c.requires.within).0 c.in-Twice.is c.in_ok-step_at.ensures.step

pub returns-in-Waits-clause-progress : goal.returns-in-Waits-clause-progress
returns-in-Waits-clause-progress g c =
    let M = machine_of (g.L.Language.rules c.args.language.now) in
    stuck_at M c.in_ok-step_at.field-0 c.args.place c.args.list.now.items c.step_at.new.list.items
    (revision_at c.args.list.now.items c.args.place c.requires.within).0 c.in-Waits.is c.in_ok-step_at.ensures.step

pub returns-clause-progress : goal.returns-clause-progress
returns-clause-progress g c =
    let M = machine_of (g.L.Language.rules c.args.language.now) in
    moved_at M c.in_ok-step_at.field-0 c.args.place c.args.list.now.items c.step_at.new.list.items
    (revision_at c.args.list.now.items c.args.place c.requires.within).0 c.in-Moved.is c.in_ok-step_at.ensures.step

-- Answers of step_alone: the answer, whichever of the four it is, fits the phase of the revision.
use Rattle.std.proofs.Common.{rules}
use Rattle.revision_state.specs.Views.{given}
use Rattle.rev_audit.proofs.Fits.{fits}
use Rattle.rev_audit.proofs.alone.step_alone.Goals as goal
use Rattle.rev_audit.proofs.alone.step_alone.Goals.{in-Moved, in-Forked+in_ok-child-in-Forked, in-Joins, in-Ended}

pub returns-clause-phase : goal.returns-clause-phase
returns-clause-phase c =
    let new = c.advance.new.self in
    fits (given c.args.setting.now) c.args.state.path c.args.state.local new c.match-branch-2.answer
    (elim c.match-branch-2.branch [
      | in-Moved w ↦ search rules
      | in-Forked+in_ok-child-in-Forked w ↦ search rules
      | in-Joins w ↦ search rules
      | in-Ended w ↦ search rules
    ])

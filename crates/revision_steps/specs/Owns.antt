-- How a contract sees what a running revision has done, and what a statement does that was taken out of its frame.
use Rattle.std.specs.Prelude.{ℕ, zero, suc}
use Rattle.rev_num.specs.Path.{Path}
use Rattle.rev_num.specs.declared.outcome.Cause.TheVariants as cause
use Rattle.rev_syntax.specs.Trees.{Statement, statement, no_statements, statements}
use Rattle.revision_machine.specs.Machine.{Event, Moves, Forks}
use Rattle.revision_calculus.specs.Program.{Setting}
use Rattle.revision_calculus.specs.State as state
use Rattle.revision_calculus.specs.Step.{does, enter, traps}
use Rattle.revision_steps.specs.declared.own.Own.{Own}
use Rattle.revision_steps.specs.declared.own.Own.TheVariants.{Moved, Forked}

-- the event, with the state after it
abbrev pub own_event : Own → state.Local → Event state.Local
own_event Moved l = Moves l
own_event (Forked child) l = Forks l child

-- the statement pays, or is put back and the revision traps
abbrev pub paid : Setting → Path → state.Local → Statement → ℕ → Event state.Local
paid s r l (statement at line form) zero =
    traps r (record (enter (statements (statement at line form) no_statements) l) { line = line }) cause.Spent
paid s r l (statement at line form) (suc fuel) =
    does s r (record l { fuel = fuel; line = line }) (statement at line form)

-- what this statement does, which was taken out of the frame on top
abbrev pub begun : Setting → Path → state.Local → Statement → Event state.Local
begun s r l x = paid s r l x l.fuel

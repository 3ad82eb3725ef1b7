-- How a contract sees what a revision is about, and the list of its forks and joins.
use Rattle.std.specs.Prelude.{Option, Some, None, option_copied}
use Rattle.rev_num.specs.Path.{Path}
use Rattle.rev_num.specs.declared.outcome.Trap.{Trap}
use Rattle.revision_calculus.specs.State as state
use Rattle.revision_state.specs.declared.phase.Phase as held
use Rattle.revision_state.specs.declared.phase.Phase.TheVariants.{Running, Joining, Done, Trapped}
use Rattle.revision_state.specs.declared.phase.ForkOrJoin as held_noted
use Rattle.revision_state.specs.declared.phase.ForkOrJoin.TheVariants.{Forked, Joined}

abbrev pub phase : held.Phase → state.Phase
phase Running = state.running
phase (Joining on left) = state.joining on (option_copied left)
phase Done = state.done
phase (Trapped t) = state.trapped t

abbrev pub noted : held_noted.ForkOrJoin → state.Noted
noted (Forked q line) = state.forked q line
noted (Joined q line) = state.joined q line

-- it is done or trapped
abbrev pub IsEnded : state.Phase → Type 0
IsEnded state.running = ⊥
IsEnded (state.joining q left) = ⊥
IsEnded state.done = Unit {0}
IsEnded (state.trapped t) = Unit {0}

-- the trap of a revision that trapped
abbrev pub trap_in : state.Phase → Option Trap
trap_in state.running = None
trap_in (state.joining q left) = None
trap_in state.done = None
trap_in (state.trapped t) = Some t

-- the path of the revision that is joined, at a join
abbrev pub awaited : state.Phase → Option Path
awaited state.running = None
awaited (state.joining q left) = Some q
awaited state.done = None
awaited (state.trapped t) = None

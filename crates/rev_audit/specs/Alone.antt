-- One revision by itself: its state with its path, what a step answers, and what is told of one that has ended.
--
-- `alone_event` is the event that an answer tells, `FitsPhase` when each answer comes; `IsEndOf` says that this is the
-- end of a revision in that state, `told_state` is a state with such an end, and `JoinsAwaited` what a join leaves.
use Rattle.std.specs.Prelude.{◌≡◌, ℕ, length, Option, Some, None}
use Rattle.rev_num.specs.Path.{Path, child}
use Rattle.revision_machine.specs.Machine as machine
use Rattle.revision_machine.specs.Machine.{Event}
use Rattle.revision_calculus.specs.Program.{Setting}
use Rattle.revision_calculus.specs.State.{Phase, running, joining, done, trapped, Local}
use Rattle.revision_calculus.specs.Join.{join}
use Rattle.revision_state.specs.Ends.{phase_of, ended_with}
use Rattle.rev_audit.specs.declared.alone.Alone.{Alone}
use Rattle.rev_audit.specs.declared.alone.Alone.TheVariants.{Moved, Forked, Wants, Ended}
use Rattle.stated_parts.specs.declared.ends.AloneEnd.{AloneEnd}
use Rattle.stated_parts.specs.Ends.{writes_from, told_from}

-- ---- steps

-- the event that the answer tells, with the state after it
abbrev pub alone_event : Alone → Local → Event Local
alone_event Moved l = machine.Moves l
alone_event (Forked c) l = machine.Forks l c.local
alone_event (Wants q) l = machine.Joins q
alone_event Ended l = machine.Ended

-- a child has the path of its forker, which has made so many forks, and then that number
abbrev pub NamesChild : Path → ℕ → Alone → Type 0
NamesChild p made Moved = Unit {0}
NamesChild p made (Forked c) = c.path ≡ child p made
NamesChild p made (Wants q) = Unit {0}
NamesChild p made Ended = Unit {0}

-- one that waits or has ended stays as it was
abbrev pub StaysAsItWas : Alone → Local → Local → Type 0
StaysAsItWas Moved old new = Unit {0}
StaysAsItWas (Forked c) old new = Unit {0}
StaysAsItWas (Wants q) old new = new ≡ old
StaysAsItWas Ended old new = new ≡ old

-- a running revision moves or forks, one that joins wants that revision, and one that is done or trapped has ended
abbrev pub FitsPhase : Phase → Alone → Type 0
FitsPhase running Moved = Unit {0}
FitsPhase running (Forked c) = Unit {0}
FitsPhase (joining q left) (Wants p) = p ≡ q
FitsPhase done Ended = Unit {0}
FitsPhase (trapped t) Ended = Unit {0}
FitsPhase _ _ = ⊥

-- ---- ends

-- what is told of a revision that has ended in this state
pub record IsEndOf (e : AloneEnd) (l : Local) : Type 0 where
  pub written : e.written.items ≡ writes_from 0 l.locations
  pub text : e.text.items ≡ l.text
  pub fuel : e.fuel ≡ l.fuel
  pub trap : l.phase ≡ phase_of e.trap

-- a state with this end and so many locations
abbrev pub told_state : ℕ → AloneEnd → Local
told_state count e = ended_with (told_from 0 count e.written.items) e.text.items e.fuel e.trap

-- ---- joins

-- r, at l, after its join of a revision at q that ended so, with as many locations, whatever else stands in that one's
-- state
abbrev pub JoinsEnd : Setting → Path → Local → Path → AloneEnd → Local → Type 0
JoinsEnd s r l q e new =
    (j : Local) → length j.locations ≡ length l.locations → IsEndOf e j → new ≡ join s r l q j

-- r, at l, joins the revision that it waits for, if it waits
abbrev pub JoinsAwaited : Setting → Path → Local → Option Path → AloneEnd → Local → Type 0
JoinsAwaited s r l None e new = new ≡ l
JoinsAwaited s r l (Some q) e new = JoinsEnd s r l q e new

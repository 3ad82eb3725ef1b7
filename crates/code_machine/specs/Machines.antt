-- Verified code as a machine of revisions, by paths and by numbers. Its event is a whole leg.
--   Act          what a revision does next, whatever a handle is
--   machine      revisions by their paths
--   numbered     revisions by their numbers, in the order of their forks
--   start_in     `main` with its fuel
use Rattle.std.specs.Prelude.{◌≡◌, true, ℕ, List, [], Option, Some, None, slice_get}
use Rattle.rev_num.specs.Path.{Path, child}
use Rattle.rev_code.specs.declared.code.CodeBlock.{CodeBlock}
use Rattle.rev_code.specs.Words.{Word}
use Rattle.rev_code.specs.State.{State}
use Rattle.rev_code.specs.Variables.{start_locations}
use Rattle.rev_code.specs.Step.{Comes, goes, traps, forks, joins, ends, stuck}
use Rattle.rev_code.specs.Events as events
use Rattle.code_soundness.specs.Safe.{is_main}
use Rattle.revision_machine.specs.Machine as revisions
use Rattle.revision_machine.specs.Machine.{Event, Machine}
use Rattle.revision_machine.specs.Laws.{IsIn}
use Rattle.revision_machine.specs.Numbered as numbers
use Rattle.revision_machine.specs.Numbered.{Wish, Numbered}
use Rattle.code_machine.specs.Local.{CodeRun, Phase, running, done, trapped, Local, at_work, has_ended, handles}
use Rattle.code_machine.specs.Leg.{leg}
use Rattle.code_machine.specs.Joining.{join}

-- a fork goes on once it knows its child's handle
pub data Act (H : Type 0) : Type 0 where
  Goes : Local H → Act H
  Bears : (H → Local H) → Local H → Act H
  Wants : H → Act H
  Stops : Act H

-- the forker and its child, whose block this is; the fork pays nothing, since a Charge has paid for
-- it
abbrev pub fork : {H : Type 0} → CodeRun → State H → ℕ → List (Word H) → Option CodeBlock → Act H
fork g c n args None = Stops
fork g c n args (Some b) =
    Bears (λ h. at_work (events.parent g.share c args h))
    (at_work (events.child g.share c n b args))

-- by the event of its leg
abbrev pub act_of : {H : Type 0} → CodeRun → Comes H → Act H
act_of g (traps c e) =
    Goes (has_ended c (trapped (record { cause = e; line = c.line; origin = None })))
act_of g (forks c n args) = fork g c n args (slice_get g.code.blocks n)
act_of g (joins c try h) = Wants h
act_of g (ends c w) = Goes (has_ended c done)
act_of g (goes c) = Stops
act_of g stuck = Stops

abbrev pub act_in : {H : Type 0} → CodeRun → State H → Phase H → Act H
act_in g c running = act_of g (leg g c)
act_in g c done = Stops
act_in g c (trapped t) = Stops

abbrev pub act : {H : Type 0} → CodeRun → Local H → Act H
act g l = act_in g l.state l.phase

-- ---- by paths

-- what the revision r does, which has made so many forks
abbrev pub event_of : Path → ℕ → Act Path → Event (Local Path)
event_of r k (Goes l) = revisions.Moves l
event_of r k (Bears f c) = revisions.Forks (f (child r k)) c
event_of r k (Wants q) = revisions.Joins q
event_of r k Stops = revisions.Ended

abbrev pub machine : CodeRun → Machine
machine g = record {
  Local = Local Path;
  next = λ r l. event_of r l.state.forks (act g l);
  forks = λ l. l.state.forks;
  join = λ r l q j. join g l j;
}

-- q is a handle in the local state
abbrev pub Holds : Local Path → Path → Type 0
Holds l q = IsIn q (handles l)

-- ---- by numbers

abbrev pub wish_of : Act ℕ → Wish (Local ℕ)
wish_of (Goes l) = numbers.Goes l
wish_of (Bears f c) = numbers.Bears f c
wish_of (Wants m) = numbers.Wants m
wish_of Stops = numbers.Stops

abbrev pub numbered : CodeRun → Numbered
numbered g = record {
  Local = Local ℕ;
  next = λ l. wish_of (act g l);
  forks = λ l. l.state.forks;
  join = λ l m j. join g l j;
}

-- ---- the first state

-- block n is the main block
pub record IsMain (g : CodeRun) (n : ℕ) : Type 0 where
  pub body : CodeBlock
  pub is : slice_get g.code.blocks n ≡ Some body
  pub class : is_main body.class ≡ true

abbrev pub start_in : {H : Type 0} → CodeRun → ℕ → CodeBlock → (fuel : ℕ) → Local H
start_in g n b fuel = at_work (events.start n b [] (start_locations g.code.vars) fuel)

-- What comes of the instructions of a leg, and of a join.
--   HasCome    a fork, of a child with this number, in its line; or the revision at its join, or ended
--   IsMeeting  a joiner at its join, and the end that it is given
--   meets      the joiner behind it
--   HasMet     a joiner behind its join, or ended
use Rattle.std.specs.Prelude.{ℕ, ◌≡◌, ◌<◌, ◌+◌, ◌^◌, List}
use Rattle.rev_code.specs.State.{State}
use Rattle.rev_code.specs.Step.{forks}
use Rattle.rev_code.specs.Words.{Word}
use Rattle.version_map.specs.declared.end.EndValue.{EndValue}
use Rattle.revision_machine.specs.Numbered.{Goes, Bears}
use Rattle.code_machine.specs.Local.{CodeRun, Local, at_work, End, end_of}
use Rattle.code_machine.specs.Joining.{join_in}
use Rattle.code_machine.specs.Leg.{leg}
use Rattle.code_machine.specs.Machines.{numbered}
pub use Rattle.rev_vm.specs.Starts.{run_under}
use Rattle.rev_vm.specs.Meaning.{IsEnd}
use Rattle.code_world.specs.declared.advance.Came.{Came}
use Rattle.code_world.specs.declared.advance.Came.TheVariants as came
use Rattle.code_world.specs.declared.slot.WorldSlot.{WorldSlot}
use Rattle.code_world.specs.declared.slot.WorldSlot.TheVariants as slot
use Rattle.code_world.specs.Slots.{WholeRunner, WholeJoin, IsSlot, StandsAtJoin}

pub record HasForked (g : CodeRun) (number : ℕ) (c : State ℕ) (forker kid : WholeRunner) : Type 0 where
  pub goes_on : ℕ → Local ℕ
  pub born : Local ℕ
  pub bears : (numbered g).next (at_work c) ≡ Bears goes_on born
  pub forker_is : IsSlot g (slot.Running forker) (goes_on number)
  pub kid_is : IsSlot g (slot.Running kid) born

-- the leg comes to a fork in this line
pub record ForksInLine (g : CodeRun) (c : State ℕ) (line : ℕ) : Type 0 where
  pub at : State ℕ
  pub block : ℕ
  pub args : List (Word ℕ)
  pub comes : leg g c ≡ forks at block args
  pub is : line ≡ at.line

pub record HasEnded (g : CodeRun) (c : State ℕ) (v : EndValue) : Type 0 where
  pub after : Local ℕ
  pub goes : (numbered g).next (at_work c) ≡ Goes after
  pub end : IsEnd g (end_of after) v

abbrev pub HasCome : CodeRun → (child : ℕ) → State ℕ → Came → Type 0
HasCome g n c (came.Forked r k line) = HasForked g n c r k × ForksInLine g c line
HasCome g n c (came.Standing a) = IsSlot g (slot.Standing a) (at_work c)
HasCome g n c (came.Ended v) = HasEnded g c v

-- a joiner at its join, and what the revision that it joins left
pub record IsMeeting (g : CodeRun) (a : WholeJoin) (v : EndValue) (c : State ℕ) (j : End ℕ) : Type 0 where
  pub joiner : StandsAtJoin g a c
  pub joinee : IsEnd g j v
  pub fuel : c.fuel + j.fuel < 2 ^ 64

-- the joiner behind that join
abbrev pub meets : CodeRun → WholeJoin → State ℕ → End ℕ → Local ℕ
meets g a c j = join_in g c a.is_try a.on j j.phase

-- a joiner at work, or one that has trapped
abbrev pub HasMet : CodeRun → WorldSlot → Local ℕ → Type 0
HasMet g (slot.Running r) l = IsSlot g (slot.Running r) l
HasMet g (slot.Ended v) l = IsSlot g (slot.Ended v) l
HasMet g (slot.Standing a) l = ⊥
HasMet g (slot.Joined v) l = ⊥
HasMet g slot.Taken l = ⊥

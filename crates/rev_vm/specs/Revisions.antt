-- For which states of a run of code a revision stands, in whatever value of this crate it lies.
--   StandsAs   a running revision
--   BornAs     what a revision has before its first leg
--   ForksAs    at a Fork of this block, whose child gets these arguments
--   JoinsAs    at a join
--   ClaimsAs   at a join, with what the joined revision left, which is done
use Rattle.std.specs.Prelude.{ℕ, Bool, List}
use Rattle.rev_code.specs.Words.{Word}
use Rattle.rev_code.specs.State.{State}
use Rattle.version_map.specs.declared.end.EndValue.{EndValue}
use Rattle.version_map.specs.declared.snapshot.Snapshot.{Ghosts}
use Rattle.code_machine.specs.Local.{CodeRun, End}
use Rattle.leg_run.specs.declared.revision.RunningRevision.{RunningRevision}
use Rattle.rev_vm.specs.declared.runner.Beginning.{Beginning}
use Rattle.rev_vm.specs.Meaning.{IsAt, IsAtFork, IsAtJoin, IsClaimed}
use Rattle.rev_vm.specs.Starts.{IsAtStart}

-- by the words and the number of locations of its snapshot
abbrev pub BornAs : {P S : Type 0} → CodeRun → (base : P → ℕ → ℕ) → (size : P → ℕ) → Beginning P S
    → State ℕ → Type 0
BornAs g base size k c =
    IsAtStart g k.block k.args.items (base k.snapshot) (size k.snapshot) k.fuel c

module _ {P S : Type 0} {m : Ghosts P S} where
  abbrev pub StandsAs : CodeRun → RunningRevision P S m → State ℕ → Type 0
  StandsAs g r c =
      IsAt g r.run r.memory.delta (m.base r.memory.snapshot) r.memory.first.roots c

  abbrev pub ForksAs : CodeRun → RunningRevision P S m → (block : ℕ) → State ℕ → List (Word ℕ) → Type 0
  ForksAs g r block c args =
      IsAtFork g r.run r.memory.delta (m.base r.memory.snapshot) r.memory.first.roots block c args

  abbrev pub JoinsAs : CodeRun → RunningRevision P S m → (try : Bool) → (on : ℕ) → State ℕ → Type 0
  JoinsAs g r try on c =
      IsAtJoin g r.run r.memory.delta (m.base r.memory.snapshot) r.memory.first.roots try on c

  abbrev pub ClaimsAs : CodeRun → RunningRevision P S m → (try : Bool) → (on : ℕ) → EndValue
      → State ℕ → End ℕ → Type 0
  ClaimsAs g r try on v c j =
      IsClaimed g r.run r.memory.delta (m.base r.memory.snapshot) r.memory.first.roots try on v c j

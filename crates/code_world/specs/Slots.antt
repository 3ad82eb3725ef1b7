-- For which revisions of the world of the machine of code (`code_machine`) a world stands.
--   words           the words of a snapshot
--   Runs            a running revision, in this state
--   StandsAtFork    one that stands at a Fork, of a child with these arguments
--   StandsAtJoin    one that stands at its join, in this state
--   IsSlot          what a world has of an unmarked revision with this local state
--   IsEntry         of a revision with or without the mark: of a marked one it has what it left
use Rattle.std.specs.Prelude.{ℕ, ◌≡◌, List, slice_index}
use Rattle.rev_code.specs.State.{State}
use Rattle.rev_code.specs.Step.{joins}
use Rattle.rev_code.specs.Words.{Word}
use Rattle.version_map.specs.declared.whole.Whole.{Whole}
use Rattle.version_map.specs.contracts.whole.WholeSnapshot.TheImpl.{ghosts}
use Rattle.revision_machine.specs.Machine.{Entry, Plain, Joined}
use Rattle.code_machine.specs.Local.{CodeRun, Local, at_work, end_of}
use Rattle.code_machine.specs.Leg.{leg}
use Rattle.rev_vm.specs.declared.fork.AtFork.{AtFork}
use Rattle.rev_vm.specs.declared.join.AtJoin.{AtJoin}
use Rattle.rev_vm.specs.declared.runner.Runner.{Runner}
use Rattle.rev_vm.specs.Meaning.{IsAtFork, IsAtJoin, IsEnd}
use Rattle.rev_vm.specs.Values.{StandsFor}
use Rattle.code_world.specs.declared.slot.WorldSlot.{WorldSlot}
use Rattle.code_world.specs.declared.slot.WorldSlot.TheVariants as slot

-- revisions over snapshots with all words of their own
abbrev pub WholeRunner : Type 0
WholeRunner = Runner Whole _ ghosts

abbrev pub WholeFork : Type 0
WholeFork = AtFork Whole _ ghosts

abbrev pub WholeJoin : Type 0
WholeJoin = AtJoin Whole _ ghosts

abbrev pub words : Whole → ℕ → ℕ
words w = slice_index w.words.items

abbrev pub Runs : CodeRun → WholeRunner → State ℕ → Type 0
Runs g r c = StandsFor g r c

abbrev pub StandsAtFork : CodeRun → WholeFork → State ℕ → List (Word ℕ) → Type 0
StandsAtFork g a c args =
    IsAtFork g a.revision.value.run a.revision.value.memory.delta
    (words a.revision.value.memory.snapshot)
    a.revision.value.memory.first.roots a.block c args

abbrev pub StandsAtJoin : CodeRun → WholeJoin → State ℕ → Type 0
StandsAtJoin g a c =
    IsAtJoin g a.revision.value.run a.revision.value.memory.delta
    (words a.revision.value.memory.snapshot)
    a.revision.value.memory.first.roots a.is_try a.on c

-- one that stands at its join is behind the instructions of its leg, which begins in the local state
abbrev pub IsSlot : CodeRun → WorldSlot → Local ℕ → Type 0
IsSlot g (slot.Running r) l = (c : State ℕ) × (l ≡ at_work c) × Runs g r c
IsSlot g (slot.Standing a) l =
    (c : State ℕ) × (l ≡ at_work c) × (c' : State ℕ) × (leg g c ≡ joins c' a.is_try a.on)
    × StandsAtJoin g a c'
IsSlot g (slot.Ended v) l = IsEnd g (end_of l) v
IsSlot g (slot.Joined v) l = ⊥
IsSlot g slot.Taken l = ⊥

-- of a revision that was joined it has what it left
abbrev pub IsMarked : CodeRun → WorldSlot → Local ℕ → Type 0
IsMarked g (slot.Joined v) l = IsEnd g (end_of l) v
IsMarked g (slot.Running r) l = ⊥
IsMarked g (slot.Standing a) l = ⊥
IsMarked g (slot.Ended v) l = ⊥
IsMarked g slot.Taken l = ⊥

abbrev pub IsEntry : CodeRun → WorldSlot → Entry (Local ℕ) → Type 0
IsEntry g s (Plain l) = IsSlot g s l
IsEntry g s (Joined l) = IsMarked g s l

-- What legs keep of the world that they have led to, and runs by such legs.
--   KeepsOn           it is kept of the world after the leg of this number, or of the same world where it has none
--   MadeKept          the same of the world that was made
--   HasMadeKeeping, HasTriedKeeping, HasLeastKeeping, HasFinishedKeeping
--                     as `HasMade`, `HasTried`, `HasLeast` and `HasFinished`, and it is kept of the world there
--   IsKeptFirst       it is kept of the world at the start, with this fuel
use Rattle.std.specs.Prelude.{◌≡◌, ℕ, Some}
use Rattle.revision_machine.specs.Numbered as numbers
use Rattle.revision_machine.specs.Numbered.{World, begin}
use Rattle.code_machine.specs.Local.{CodeRun, Local}
use Rattle.code_machine.specs.Machines.{numbered, IsMain, start_in}
use Rattle.code_world.specs.declared.answer.LegAnswer.{LegAnswer}
use Rattle.code_world.specs.declared.answer.LegAnswer.TheVariants as answer
use Rattle.code_world.specs.declared.world.World as rust
use Rattle.code_world.specs.Tables.{IsWorld}
use Rattle.world_runs.specs.declared.queue.ReadyQueue.{ReadyQueue}
use Rattle.world_runs.specs.declared.made.Made.{Made}
use Rattle.world_runs.specs.declared.made.Made.TheVariants as made
use Rattle.world_runs.specs.Finish.{HasTried, HasLeast, HasFinished}
use Rattle.world_runs.specs.LegOrNone.{HasMade}

-- what is kept of a world that stands so
abbrev pub Kept : Type 1
Kept = World (Local ℕ) → rust.World → Type 0

abbrev pub KeepsOn : (World (Local ℕ) → Type 0) → CodeRun → World (Local ℕ) → ℕ → LegAnswer → Type 0
KeepsOn K g w n (answer.Waits on) = K w
KeepsOn K g w n answer.NoSuch = K w
KeepsOn K g w n answer.Over = K w
KeepsOn K g w n _ = (u : World (Local ℕ)) → numbers.leg (numbered g) w n ≡ Some u → K u

abbrev pub MadeKept : Kept → CodeRun → World (Local ℕ) → ℕ → Made → Type 0
MadeKept K g w n (made.Leg v) = (u : World (Local ℕ)) → numbers.leg (numbered g) w n ≡ Some u → K u v
MadeKept K g w n (made.None v) = K w v

abbrev pub HasMadeKeeping : Kept → CodeRun → World (Local ℕ) → ℕ → Made → Type 0
HasMadeKeeping K g w n k = HasMade g w n k × MadeKept K g w n k

abbrev pub HasTriedKeeping : Kept → CodeRun → World (Local ℕ) → ℕ → Made → (before after : ReadyQueue) → Type 0
HasTriedKeeping K g w n k q q' = HasTried g w n k q q' × MadeKept K g w n k

-- of the world after the leg, which the second part of `HasLeast` names
abbrev pub HasLeastKeeping : Kept → CodeRun → World (Local ℕ) → Made → ReadyQueue → Type 0
HasLeastKeeping K g w (made.Leg v) q = (l : HasLeast g w (made.Leg v) q) × K l.1 v
HasLeastKeeping K g w (made.None v) q = HasLeast g w (made.None v) q × K w v

pub record HasFinishedKeeping (K : Kept) (g : CodeRun) (w : World (Local ℕ)) (v : rust.World) : Type 0 where
  pub finished : HasFinished g w v
  pub kept : K finished.end v

abbrev pub IsKeptFirst : Kept → CodeRun → (fuel : ℕ) → Type 0
IsKeptFirst K g fuel = (n : ℕ) (m : IsMain g n) (v : rust.World)
    → IsWorld g v (begin (numbered g) (start_in g n m.body fuel))
    → K (begin (numbered g) (start_in g n m.body fuel)) v

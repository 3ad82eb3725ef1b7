-- Replays of a schedule.
--   Replayed     the world after a schedule, from the start of `main` with this fuel
--   IsIllegal    the first entry without a leg, and its number
use Rattle.std.specs.Prelude.{ℕ, ◌≡◌, List, take, Some, None, slice_get}
use Rattle.revision_machine.specs.Numbered as numbers
use Rattle.revision_machine.specs.Numbered.{World, begin}
use Rattle.code_machine.specs.Local.{CodeRun, Local}
use Rattle.code_machine.specs.Machines.{numbered, IsMain, start_in}
use Rattle.code_machine.specs.Worlds.{replay}
use Rattle.world_runs.specs.declared.replaying.ReplayFault.{ReplayFault}
use Rattle.world_runs.specs.declared.replaying.ReplayFault.TheVariants as fault

pub record Replayed (g : CodeRun) (fuel : ℕ) (ns : List ℕ) (w : World (Local ℕ)) : Type 0 where
  pub number : ℕ
  pub main : IsMain g number
  pub world : replay (numbered g) (begin (numbered g) (start_in g number main.body fuel)) ns ≡ Some w

-- all entries before it have a leg
pub record StopsAt (g : CodeRun) (fuel : ℕ) (ns : List ℕ) (at revision : ℕ) : Type 0 where
  pub before : World (Local ℕ)
  pub replayed : Replayed g fuel (take at ns) before
  pub entry : slice_get ns at ≡ Some revision
  pub none : numbers.leg (numbered g) before revision ≡ None

abbrev pub IsIllegal : CodeRun → (fuel : ℕ) → List ℕ → ReplayFault → Type 0
IsIllegal g fuel ns (fault.Illegal at revision) = StopsAt g fuel ns at revision
IsIllegal g fuel ns fault.OutOfMemory = Unit {0}

-- Worlds on the way, and at the end.
--   IsUnderway   a legal schedule of `main`, with this fuel, comes to the world that this stands for
--   IsAfter      so does some complete schedule
use Rattle.std.specs.Prelude.{ℕ, ◌≤◌, List}
use Rattle.revision_machine.specs.Numbered.{World}
use Rattle.code_machine.specs.Local.{CodeRun, Local}
use Rattle.code_machine_laws.specs.Outcomes.{IsCompleteRun}
use Rattle.code_world.specs.declared.world.World as rust
use Rattle.code_world.specs.Tables.{IsWorld}
use Rattle.code_machine_laws.specs.Reached.{most_fuel}
use Rattle.world_runs.specs.Replay.{Replayed}

pub record IsUnderway (g : CodeRun) (fuel : ℕ) (v : rust.World) : Type 0 where
  pub few : fuel ≤ most_fuel
  pub schedule : List ℕ
  pub world : World (Local ℕ)
  pub replayed : Replayed g fuel schedule world
  pub stands : IsWorld g v world

pub record IsAfter (g : CodeRun) (fuel : ℕ) (v : rust.World) : Type 0 where
  pub few : fuel ≤ most_fuel
  pub schedule : List ℕ
  pub world : World (Local ℕ)
  pub complete : IsCompleteRun g fuel schedule world
  pub stands : IsWorld g v world

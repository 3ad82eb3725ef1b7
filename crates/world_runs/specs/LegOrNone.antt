-- Legs, or none.
--   made_of    what comes of a leg that came out so
--   HasMade    the world after a leg of this revision, or the same world where it has none
use Rattle.std.specs.Prelude.{ℕ, ◌≡◌, Some, None}
use Rattle.revision_machine.specs.Numbered as numbers
use Rattle.revision_machine.specs.Numbered.{World}
use Rattle.code_machine.specs.Local.{CodeRun, Local}
use Rattle.code_machine.specs.Machines.{numbered}
use Rattle.code_world.specs.declared.answer.LegAnswer.{LegAnswer}
use Rattle.code_world.specs.declared.answer.LegAnswer.TheVariants as answer
use Rattle.code_world.specs.declared.world.World as rust
use Rattle.code_world.specs.Tables.{IsWorld}
use Rattle.code_machine_laws.specs.Reached.{IsReached}
use Rattle.world_runs.specs.declared.made.Made.{Made}
use Rattle.world_runs.specs.declared.made.Made.TheVariants as made

abbrev pub made_of : rust.World → LegAnswer → Made
made_of v (answer.Waits on) = made.None v
made_of v answer.NoSuch = made.None v
made_of v answer.Over = made.None v
made_of v _ = made.Leg v

abbrev pub HasMade : CodeRun → World (Local ℕ) → ℕ → Made → Type 0
HasMade g w n (made.Leg v) =
    (u : World (Local ℕ)) × (numbers.leg (numbered g) w n ≡ Some u) × IsReached g u × IsWorld g v u
HasMade g w n (made.None v) = (numbers.leg (numbered g) w n ≡ None) × IsWorld g v w

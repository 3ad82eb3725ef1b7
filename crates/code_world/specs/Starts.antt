-- The start of a world.
--   IsFirst    `main` before its first instruction
--   IsAlone    a table of `main` alone
use Rattle.std.specs.Prelude.{ℕ, ◌≡◌, [], ◌∷◌}
use Rattle.rev_code.specs.Events as events
use Rattle.rev_code.specs.Variables.{start_locations}
use Rattle.code_machine.specs.Local.{CodeRun}
use Rattle.code_machine.specs.Machines.{IsMain}
use Rattle.code_world.specs.declared.slot.WorldSlot.TheVariants as slot
use Rattle.code_world.specs.declared.table.Table.{Table}
use Rattle.code_world.specs.Slots.{WholeRunner, Runs}

pub record IsFirst (g : CodeRun) (fuel : ℕ) (r : WholeRunner) : Type 0 where
  pub number : ℕ
  pub main : IsMain g number
  pub runs : Runs g r (events.start number main.body [] (start_locations g.code.vars) fuel)

pub record IsAlone (r : WholeRunner) (t : Table) : Type 0 where
  pub slots : t.slots.items ≡ slot.Running r ∷ []
  pub births : t.births.items ≡ record { forker = 0; place = 0; forks = 0 } ∷ []

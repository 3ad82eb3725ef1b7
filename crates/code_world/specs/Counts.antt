-- How many revisions a world has.
--   slot_count    those of its table, or none in Twice
use Rattle.std.specs.Prelude.{ℕ, length}
use Rattle.code_world.specs.declared.world.World as rust
use Rattle.code_world.specs.declared.world.World.TheVariants as world

abbrev pub slot_count : rust.World → ℕ
slot_count world.Twice = 0
slot_count (world.Live t) = length t.slots.items

-- What `main` has printed, as far as a world has it.
--   slot_text     what a revision has printed: one that stands at its join, up to there
--   main_text     what `main` has; in Twice nothing
use Rattle.std.specs.Prelude.{ℕ, List, [], Option, Some, None}
use Rattle.revision_machine.specs.Numbered.{at_number}
use Rattle.rev_vm.specs.Values.{runner_text}
use Rattle.code_world.specs.declared.slot.WorldSlot.{WorldSlot}
use Rattle.code_world.specs.declared.slot.WorldSlot.TheVariants as slot
use Rattle.code_world.specs.declared.world.World as rust
use Rattle.code_world.specs.declared.world.World.TheVariants as world

abbrev pub slot_text : Option WorldSlot → List ℕ
slot_text None = []
slot_text (Some (slot.Running r)) = runner_text r
slot_text (Some (slot.Standing a)) = a.revision.value.run.text.items
slot_text (Some (slot.Ended v)) = v.text
slot_text (Some (slot.Joined v)) = v.text
slot_text (Some slot.Taken) = []

abbrev pub main_text : rust.World → List ℕ
main_text world.Twice = []
main_text (world.Live t) = slot_text (at_number t.slots.items 0)

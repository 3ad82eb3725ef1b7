-- Answers of Table::main_text: the slot with number 0 is that of main, and a running main's text is its runner's.
use Rattle.code_world.specs.declared.slot.WorldSlot.TheVariants as slot
use Rattle.code_world.proofs.Saying.{first_slot, running_said}
use Rattle.code_world.proofs.table.Table.main_text.Goals as goal

pub returns-in-Some-Running : goal.returns-in-Some-Running
returns-in-Some-Running c = λ g w h.
    let a = c.in-Some-Running.ensures.lookup in
    running_said g c.args.self.now.slots.items w h c.text.result.now c.in-Some-Running.runner
    (first_slot c.args.self.now.slots.items c.deref.result.now c.in-Some-Running.field-0.now
    (slot.Running c.in-Some-Running.runner) c.deref.ensures.value a.3.0 a.1 c.in-Some-Running.field-0-is)
    c.text.ensures

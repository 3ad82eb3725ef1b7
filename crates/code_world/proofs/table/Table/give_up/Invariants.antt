-- Loops of Table::give_up: nothing but that each turn leaves one slot less.
use Rattle.std.specs.Vec.Iter.{into_iter_len}
use Rattle.code_world.proofs.table.Table.give_up.Given as goal

abbrev pub decreases-loop-slot : goal.decreases-loop-slot
decreases-loop-slot l = into_iter_len l.rest

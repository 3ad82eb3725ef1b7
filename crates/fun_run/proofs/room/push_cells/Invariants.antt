-- Loops of push_cells: the list is what it was, followed by the variable's merge block for each cell so far.
use Rattle.std.proofs.Common.{◌≡◌, ◌++◌, replicate}
use Rattle.code_machine.specs.Joining.{merge_in}
use Rattle.fun_run.proofs.room.push_cells.Given as goal

abbrev pub invariant-loop-cell : goal.invariant-loop-cell
invariant-loop-cell l = l.blocks.items ≡ l.initial.blocks.items ++ replicate l.cell (merge_in l.v)

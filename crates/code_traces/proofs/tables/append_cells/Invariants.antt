-- Loops of append_cells: the list is what it was, followed by the places of the cells so far.
use Rattle.std.proofs.Common.{◌≡◌, ◌++◌}
use Rattle.code_traces.specs.Parts.{cell_places}
use Rattle.code_traces.proofs.tables.append_cells.Given as goal

abbrev pub invariant-loop-cell : goal.invariant-loop-cell
invariant-loop-cell l = l.list.items ≡ l.initial.list.items ++ cell_places l.name 0 l.cell

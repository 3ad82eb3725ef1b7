-- Loops of show_array: the values so far, with those of the cells left, are the old ones and all of the array's.
use Rattle.std.proofs.Common.{◌≡◌, ◌-◌, ◌++◌}
use Rattle.revision_calculus.specs.Outcome.{show_cells}
use Rattle.revision_data.proofs.shown.show_array.Given as goal

abbrev pub invariant-loop-cell : goal.invariant-loop-cell
invariant-loop-cell l =
    l.shown.items ++ show_cells l.name l.locations l.row.base l.cell (l.row.cells - l.cell)
    ≡ l.initial.shown.items ++ show_cells l.name l.locations l.row.base 0 l.row.cells

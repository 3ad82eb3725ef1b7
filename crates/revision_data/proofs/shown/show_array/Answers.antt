-- Answers of show_array: the value of this cell goes behind those shown, and the cells left go behind it.
use Rattle.std.proofs.Common.{◌++◌}
use Rattle.revision_calculus.specs.Outcome.{show_cells}
use Rattle.revision_data.proofs.Showing.{cells_more}
use Rattle.revision_data.proofs.shown.show_array.Goals as goal

pub loop-cell-preserved : goal.loop-cell-preserved
loop-cell-preserved c =
    cells_more c.args.name.now c.args.locations.now c.args.row.base c.args.row.cells c.loop-cell.cell
    (c.args.shown.now.items ++ show_cells c.args.name.now c.args.locations.now c.args.row.base 0 c.args.row.cells)
    c.loop-cell.shown.items c.push.new.self.items c.in_ok-value.value c.loop-cell-test.true c.in_ok-value.ensures
    c.in_ok-push.ensures.items c.loop-cell.invariant

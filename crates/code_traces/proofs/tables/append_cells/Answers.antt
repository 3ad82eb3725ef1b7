-- Answers of append_cells: each turn appends the place of one cell more, from a list with none appended.
use Rattle.std.proofs.Common.{sym, append-nil}
use Rattle.code_traces.proofs.Loops.{more_cells}
use Rattle.code_traces.proofs.tables.append_cells.Goals as goal

pub loop-cell-init : goal.loop-cell-init
loop-cell-init c = sym (append-nil c.args.list.now.items)

pub loop-cell-preserved : goal.loop-cell-preserved
loop-cell-preserved c =
    more_cells c.args.name.now c.args.list.now.items c.loop-cell.list.items c.push.new.self.items c.loop-cell.cell
    c.in_ok-place.place c.in_ok-place.ensures c.in_ok-push.ensures.items c.loop-cell.invariant

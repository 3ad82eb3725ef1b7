-- Loops of Delta::look_for_row: the rows so far are 0.
use Rattle.version_map.specs.Deltas.{AreEmptyRows}
use Rattle.version_map.proofs.delta.Delta.look_for_row.Given as goal

abbrev pub invariant-loop-row : goal.invariant-loop-row
invariant-loop-row l = AreEmptyRows l.fn.self l.fn.from l.row

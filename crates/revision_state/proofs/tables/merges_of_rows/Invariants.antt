-- Loops of merges_of_rows: the merges so far, with those of the rows left, are those of all rows.
use Rattle.std.proofs.Common.{◌≡◌, ◌++◌, drop}
use Rattle.revision_state.specs.Tables.{merges_in}
use Rattle.revision_state.proofs.tables.merges_of_rows.Given as goal

abbrev pub invariant-loop-info : goal.invariant-loop-info
invariant-loop-info l = l.list.items ++ merges_in (drop l.info-index l.rows) ≡ merges_in l.rows

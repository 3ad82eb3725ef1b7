-- Loops of table_of: the table so far with that of the variables left is the whole one, and so with the cells.
use Rattle.std.proofs.Common.{◌≡◌, ◌+◌, ◌++◌, drop}
use Rattle.block_run.specs.Area.{count, table_from}
use Rattle.block_run.proofs.table.table_of.Given as goal

abbrev pub invariant-loop-at : goal.invariant-loop-at
invariant-loop-at l = record {
  vars : l.vars ≡ l.code.vars;
  table : l.table.items ++ table_from l.first (drop l.at l.vars) ≡ table_from 0 l.vars;
  first : l.first + count (drop l.at l.vars) ≡ count l.vars;
}

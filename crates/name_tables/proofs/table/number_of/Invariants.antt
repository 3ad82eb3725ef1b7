-- Loops of number_of: the number so far is that of the bytes behind.
use Rattle.std.proofs.Common.{◌≡◌, ◌≤◌, drop, length}
use Rattle.name_tables.specs.Table.{number}
use Rattle.name_tables.proofs.table.number_of.Given as goal

abbrev pub invariant-loop-left : goal.invariant-loop-left
invariant-loop-left l = (l.left ≤ length l.name) × (l.found ≡ number (drop l.left l.name))

abbrev pub decreases-loop-left : goal.decreases-loop-left
decreases-loop-left l = l.left

-- Invariants of shift_of: the power of two is not above the width, and the exponent is small.
use Rattle.std.proofs.Common.{◌-◌, ◌^◌, ◌≤◌}
use Rattle.sparse_table.proofs.table.shift_of.Given as goal

abbrev pub invariant-loop-shift : goal.invariant-loop-shift
invariant-loop-shift l = (2 ^ l.shift ≤ l.fn.width) × (l.shift ≤ 62)

abbrev pub decreases-loop-shift : goal.decreases-loop-shift
decreases-loop-shift l = 62 - l.shift

-- Loops of values_of: the count plus the widths of the items left is that of all, and at most the place.
use Rattle.std.proofs.Common.{◌≡◌, ◌+◌, ◌≤◌, drop}
use Rattle.leg_run.specs.Printed.{widths}
use Rattle.leg_run.proofs.prints.values_of.Given as goal

abbrev pub invariant-loop-at : goal.invariant-loop-at
invariant-loop-at l = record {
  count : l.count + widths (drop l.at l.items) ≡ widths l.items;
  few : l.count ≤ l.at;
}

-- Loops of location_count: the sum so far, with the cells of the variables left, is the count of all.
use Rattle.std.proofs.Common.{◌≡◌, ◌+◌, drop}
use Rattle.block_run.specs.Area.{count}
use Rattle.rev_vm.proofs.starting.location_count.Given as goal

abbrev pub invariant-loop-at : goal.invariant-loop-at
invariant-loop-at l = record {
  vars : l.vars ≡ l.code.vars;
  total : l.total + count (drop l.at l.vars) ≡ count l.vars;
}

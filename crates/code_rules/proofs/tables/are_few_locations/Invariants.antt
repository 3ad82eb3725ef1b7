-- Loops of are_few_locations: the total plus the locations of the variables left is that of all; it is at most 4,096.
use Rattle.std.proofs.Common.{◌≡◌, ◌+◌, ◌≤◌, drop}
use Rattle.code_rules.specs.Tables as tables
use Rattle.code_rules.proofs.tables.are_few_locations.Given as goal

abbrev pub invariant-loop-var : goal.invariant-loop-var
invariant-loop-var l = record {
  total : l.total + tables.locations (drop l.var-index l.vars) ≡ tables.locations l.vars;
  small : l.total ≤ 4096;
}

-- Loops of locations: the total plus the locations of the variables left is that of all, up to the greatest number.
use Rattle.std.proofs.Common.{◌≡◌, ◌+◌, ◌≤◌, min, drop}
use Rattle.code_rules.specs.Tables.{locations}
use Rattle.code_file.proofs.count.locations.Given as goal

abbrev pub invariant-loop-var : goal.invariant-loop-var
invariant-loop-var l = record {
  total : min (l.total + locations (drop l.var-index l.vars)) 18446744073709551615
      ≡ min (locations l.vars) 18446744073709551615;
  fits : l.total ≤ 18446744073709551615;
}

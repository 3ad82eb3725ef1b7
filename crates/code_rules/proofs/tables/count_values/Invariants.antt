-- Loops of count_values: the count plus the funs and merges of the blocks left is that of all; at most the place.
use Rattle.std.proofs.Common.{◌≡◌, ◌+◌, ◌≤◌, drop}
use Rattle.code_rules.specs.Pass as pass
use Rattle.code_rules.specs.Tables as tables
use Rattle.code_rules.proofs.tables.count_values.Given as goal

abbrev pub invariant-loop-block : goal.invariant-loop-block
invariant-loop-block l = record {
  total : l.count + tables.count_class pass.is_value_class (drop l.block-index l.blocks)
      ≡ tables.count_class pass.is_value_class l.blocks;
  small : l.count ≤ l.block-index;
}

-- Loops of count_procedures: the count plus the procedures of the blocks left is that of all; at most the place.
use Rattle.std.proofs.Common.{◌≡◌, ◌+◌, ◌≤◌, drop}
use Rattle.rev_code.specs.Step as meaning
use Rattle.code_rules.specs.Tables as tables
use Rattle.code_rules.proofs.tables.count_procedures.Given as goal

abbrev pub invariant-loop-block : goal.invariant-loop-block
invariant-loop-block l = record {
  total : l.count + tables.count_class meaning.is_procedure (drop l.block-index l.blocks)
      ≡ tables.count_class meaning.is_procedure l.blocks;
  small : l.count ≤ l.block-index;
}

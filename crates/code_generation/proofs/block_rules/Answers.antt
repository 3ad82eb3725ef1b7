-- Answers of block_rules: each block of a fun, merge or procedure is well by itself, and main is added last.
use Rattle.code_generation.proofs.BlockRules.{blocks_are_well, blocks_are_counted}
use Rattle.code_generation.proofs.block_rules.Goals as goal

pub returns : goal.returns
returns c = record {
  well = blocks_are_well;
  counted = blocks_are_counted;
}

-- Loops of all_blocks: whether all blocks are well formed hangs on the blocks left alone.
use Rattle.std.proofs.Common.{◌≡◌, drop}
use Rattle.std.specs.List.{list_all}
use Rattle.code_rules.specs.Tables as tables
use Rattle.code_rules.proofs.tables.all_blocks.Given as goal

abbrev pub invariant-loop-block : goal.invariant-loop-block
invariant-loop-block l = list_all tables.is_block l.blocks ≡ list_all tables.is_block (drop l.block-index l.blocks)

-- Loops of all_small_blocks: whether all blocks are small hangs on the blocks left alone.
use Rattle.std.proofs.Common.{◌≡◌, drop}
use Rattle.std.specs.List.{list_all}
use Rattle.code_rules.specs.Tables as tables
use Rattle.code_rules.proofs.tables.all_small_blocks.Given as goal

abbrev pub invariant-loop-block : goal.invariant-loop-block
invariant-loop-block l =
    list_all tables.is_small_block l.blocks ≡ list_all tables.is_small_block (drop l.block-index l.blocks)

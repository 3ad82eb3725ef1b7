-- Loops of append_blocks: the output is what it was, followed by the bytes of the blocks so far.
use Rattle.std.proofs.Common.{◌≡◌, ◌++◌, take}
use Rattle.std.specs.List.{flat_map}
use Rattle.code_file.specs.Files.{block_bytes}
use Rattle.code_file.proofs.write.append_blocks.Given as goal

abbrev pub invariant-loop-block : goal.invariant-loop-block
invariant-loop-block l = l.out.items ≡ l.fn.out.items ++ flat_map block_bytes (take l.block-index l.blocks)

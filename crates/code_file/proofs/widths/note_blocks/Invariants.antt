-- Loops of note_blocks: each block before this one fits the widths of its fields.
use Rattle.std.proofs.Common.{All, take}
use Rattle.code_file.specs.Laws.{IsBlock}
use Rattle.code_file.proofs.widths.note_blocks.Given as goal

abbrev pub invariant-loop-block : goal.invariant-loop-block
invariant-loop-block l = All IsBlock (take l.block-index l.blocks)

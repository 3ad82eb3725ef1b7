-- Answers of note_blocks: the block that was noted joins those before it, and at the end those before are all.
use Rattle.std.proofs.Common.{All, arith, subst}
use Rattle.std.proofs.lemmas.List.{take_all}
use Rattle.std.proofs.lemmas.List.Elements.{All-more}
use Rattle.code_file.specs.Laws.{IsBlock}
use Rattle.code_file.proofs.widths.note_blocks.Goals as goal

pub loop-block-preserved : goal.loop-block-preserved
loop-block-preserved c =
    All-more IsBlock c.args.blocks.now c.loop-block.block-index c.block-item.result c.loop-block-test.true
    c.loop-block.invariant
    (subst IsBlock c.block-item.is c.note_block.ensures)

pub returns : goal.returns
returns c =
    let t = c.loop-block-test.false in
    subst (All IsBlock) (take_all c.loop-block.block-index c.args.blocks.now (omega (arith, t))) c.loop-block.invariant

-- Answers of check_blocks: a block without a fault adds a cheap cost, and the search goes on with the next block.
use Rattle.std.proofs.Common.{◌∙◌}
use Rattle.code_verifier.proofs.Blocks.{block_here, blocks_next, cheap_push, ok_cheap}
use Rattle.code_verifier.proofs.verifier.check_blocks.Goals as goal

pub check_block-requires-clause-instrs : goal.check_block-requires-clause-instrs
check_block-requires-clause-instrs c =
    (c.requires.small c.loop-number.number c.index-blocks-number.result
    (block_here c.as_slice-blocks.result.now c.args.code.now.blocks c.loop-number.number c.index-blocks-number.result
    c.as_slice-blocks.ensures c.loop-number-test.true c.index-blocks-number.is)).1

pub loop-number-preserved : goal.loop-number-preserved
loop-number-preserved c = record {
  cheap =
      cheap_push c.loop-number.costs.items c.push.new.self.items c.in-Ok.cost c.in_ok-push-in-Ok.ensures.items
      c.loop-number.invariant.cheap
      (ok_cheap c.in_ok-at.field-0 c.in-Ok.cost c.in_ok-at.ensures.cheap c.in-Ok.is);
  rest =
      c.loop-number.invariant.rest
      ∙ blocks_next c.args.code.now c.loop-number.costs.items c.as_slice.result.now c.push.new.self.items
      c.loop-number.number c.index-blocks-number.result c.in-Ok.cost c.in_ok-at.field-0
      (block_here c.as_slice-blocks.result.now c.args.code.now.blocks c.loop-number.number c.index-blocks-number.result
      c.as_slice-blocks.ensures c.loop-number-test.true c.index-blocks-number.is)
      c.as_slice.ensures.value c.in_ok-at.ensures.verdict c.in-Ok.is c.in_ok-push-in-Ok.ensures.items;
}

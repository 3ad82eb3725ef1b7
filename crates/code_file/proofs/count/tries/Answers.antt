-- Answers of tries: at the end no block is left, so the total is the count up to the greatest number of 64 bits.
use Rattle.code_file.proofs.Sums.{tries_end}
use Rattle.code_file.proofs.count.tries.Goals as goal

pub returns : goal.returns
returns c = tries_end c.loop-block.total c.args.blocks.now c.loop-block.block-index c.loop-block-test.false
    c.loop-block.invariant.fits c.loop-block.invariant.total

-- Answers of two: the two words below the top in the array are the first two of the frame's stack.
use Rattle.block_run.proofs.Stacks.{both}
use Rattle.block_run.proofs.values.two.Goals as goal

pub returns : goal.returns
returns c = both c.args.b.now c.args.words.now c.args.r.now c.requires.placed.found

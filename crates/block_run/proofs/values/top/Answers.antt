-- Answers of top: the word below the top in the array is the first word of the frame's stack.
use Rattle.block_run.proofs.Stacks.{upper}
use Rattle.block_run.proofs.values.top.Goals as goal

pub returns : goal.returns
returns c = upper c.args.b.now c.args.words.now c.args.r.now c.requires.placed.found

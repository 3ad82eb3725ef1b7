-- Answers of put: a write at the word below the top changes the first word of the stack and nothing else.
use Rattle.std.proofs.Common.{arith}
use Rattle.block_run.proofs.Stacks.{put_once}
use Rattle.block_run.proofs.values.put.Goals as goal

pub returns : goal.returns
returns c =
    let found = c.requires.placed.found in
    let within = c.requires.placed.within in
    record {
      act = put_once c.args.b.now c.args.words.now c.args.r.now c.args.word found within;
      fits = record { found = omega (arith, found); within = omega (arith, within); at = c.requires.placed.at };
    }

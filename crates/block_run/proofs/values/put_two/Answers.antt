-- Answers of put_two: a write at the second word and a top one lower is the stack with one word for two.
use Rattle.std.proofs.Common.{arith}
use Rattle.block_run.proofs.Stacks.{put_twice}
use Rattle.block_run.proofs.values.put_two.Goals as goal

pub returns : goal.returns
returns c =
    let found = c.requires.placed.found in
    let within = c.requires.placed.within in
    record {
      act = put_twice c.args.b.now c.args.words.now c.args.r.now c.args.word found within;
      fits = record { found = omega (arith, found); within = omega (arith, within); at = c.requires.placed.at };
    }

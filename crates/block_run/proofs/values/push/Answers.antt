-- Answers of push: a write at the top and a top one higher is the stack with one word more on it.
use Rattle.std.proofs.Common.{arith}
use Rattle.block_run.proofs.Stacks.{pushed}
use Rattle.block_run.proofs.values.push.Goals as goal

pub returns : goal.returns
returns c =
    let at = c.requires.placed.at in
    let room = c.requires.room in
    record {
      act = pushed c.args.b.now c.args.words.now c.args.r.now c.args.word (omega (arith, c.requires.placed.found)) room;
      fits = record { found = omega arith; within = omega (arith, room); at = at };
    }

-- Answers of act_store: taking the top word into a local is one write in the frame and a pop.
use Rattle.std.proofs.Common.{◌+◌, ◌-◌, arith, get_or}
use Rattle.std.proofs.lemmas.List.{length-set}
use Rattle.block_run.proofs.Stacks.{stored}
use Rattle.block_run.proofs.values.act_store.Goals as goal

pub returns : goal.returns
returns c =
    let found = c.requires.placed.found in
    let within = c.requires.placed.within in
    let many = length-set c.args.words.now (c.args.r.now.base + c.args.n)
    (get_or c.args.words.now (c.args.r.now.top - 1) 0) in
    record {
      act = stored c.args.b.now c.args.words.now c.args.r.now c.args.n c.requires.local found;
      fits = record { found = omega (arith, found); within = omega (arith, within, many); at = c.requires.placed.at };
    }

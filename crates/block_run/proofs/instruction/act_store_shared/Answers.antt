-- Answers of act_store_shared: one word is popped, and the variable's first location takes it, as in the step.
use Rattle.block_run.specs.Area.{run_of}
use Rattle.block_run.proofs.Stacks.{run_popped}
use Rattle.block_run.proofs.Locations.{scalar_written}
use Rattle.block_run.proofs.instruction.act_store_shared.Goals as goal

pub returns-clause-does : goal.returns-clause-does
returns-clause-does g c =
    let v = c.requires.variable in
    scalar_written (run_of c.args.b.now c.args.words.now c.args.r.now) _ _ _ _ v.place v.is c.top-word.result _ _
    c.top-word.ensures
    (run_popped c.args.b.now c.args.words.now c.args.r.now c.requires.placed.found)
    c.args.t.first v.first c.write.ensures.wrote

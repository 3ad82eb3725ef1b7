-- Answers of act_store_cell: two words are popped, and the location of the index takes the word, as in the step.
use Rattle.std.proofs.Common.{sym}
use Rattle.block_run.specs.Area.{run_of}
use Rattle.block_run.proofs.Stacks.{run_popped_twice}
use Rattle.block_run.proofs.Locations.{cell_written}
use Rattle.block_run.proofs.instruction.act_store_cell.Goals as goal

pub returns-in-Some-clause-does : goal.returns-in-Some-clause-does
returns-in-Some-clause-does g c =
    let v = c.requires.variable in
    cell_written (run_of c.args.b.now c.args.words.now c.args.r.now) _ _ _ _ v.place v.is _ _ c.in-Some.location _ _
    c.two-index.ensures
    (sym (c.in-Some.ensures.value v.place v.first v.cells))
    (run_popped_twice c.args.b.now c.args.words.now c.args.r.now c.requires.placed.found)
    c.write.ensures.wrote

-- Answers of note_position: an index inside of the input marks its position, and one outside marks the count.
use Rattle.std.proofs.Common.{◌≤◌, length, sym, subst, arith}
use Rattle.block_run.specs.Marks.{HasMarked}
use Rattle.block_run.proofs.Positions.{index_inside, index_outside}
use Rattle.block_run.proofs.marking.note_position.Goals as goal

pub returns-then-index-inputs : goal.returns-then-index-inputs
returns-then-index-inputs c =
    subst (HasMarked c.args.noted.now c.note_input.new.noted)
    (sym (index_inside c.args.inputs.now c.args.index c.if-index-inputs.true c.requires.few)) c.note_input.ensures

pub returns-else-index-inputs : goal.returns-else-index-inputs
returns-else-index-inputs c =
    let h = c.if-index-inputs.false in
    let k : length c.args.inputs.now ≤ c.args.index = omega (arith, h) in
    subst (HasMarked c.args.noted.now c.note_count.new.noted) (sym (index_outside c.args.inputs.now c.args.index k))
    c.note_count.ensures

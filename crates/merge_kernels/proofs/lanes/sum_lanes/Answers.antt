-- Answers of sum_lanes: the signs of the compared sums tell whether any of the eight lanes has left 64 bits.
use Rattle.std.proofs.Common.{◌∙◌, sym}
use Rattle.merge_kernels.proofs.OneLane.{by_definition, eight_lanes}
use Rattle.merge_kernels.proofs.lanes.sum_lanes.Goals as goal

pub returns-then-past_sum-past_all-ne0 : goal.returns-then-past_sum-past_all-ne0
returns-then-past_sum-past_all-ne0 c =
    sym ((eight_lanes c.args.main c.args.join c.args.root c.note_lanes.ensures c.note_lanes-2.ensures
    c.note_lanes-3.ensures).1
    c.if-past_sum-past_all-ne0.true)
    ∙ by_definition c.args.main c.args.join c.args.root

pub returns-else-past_sum-past_all-ne0 : goal.returns-else-past_sum-past_all-ne0
returns-else-past_sum-past_all-ne0 c =
    sym ((eight_lanes c.args.main c.args.join c.args.root c.note_lanes.ensures c.note_lanes-2.ensures
    c.note_lanes-3.ensures).0
    c.if-past_sum-past_all-ne0.false)
    ∙ by_definition c.args.main c.args.join c.args.root

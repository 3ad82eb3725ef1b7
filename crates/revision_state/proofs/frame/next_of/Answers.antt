-- Answers of next_of: an empty block gives no statement, and any other its first one, with the others kept.
use Rattle.std.proofs.Common.{◌∙◌, sym}
use Rattle.revision_state.proofs.Blocks.{taken, ended}
use Rattle.revision_state.proofs.frame.next_of.Goals as goal

pub returns-in-Some-split_first-clause-taken : goal.returns-in-Some-split_first-clause-taken
returns-in-Some-split_first-clause-taken c =
    sym c.loop-block.invariant
    ∙ taken _ _ c.in-Some.block _ _ _ c.in-Some.ensures.items c.in-Some-split_first.ensures.cases.0 c.in_ok-keep.ensures

pub loop-block-preserved : goal.loop-block-preserved
loop-block-preserved c =
    ended _ _ c.in-Some.block c.in-Some.ensures.items c.in_default-split_first.ensures.cases ∙ c.loop-block.invariant

-- Loops of next_of: what remains of the blocks is what remained at first.
use Rattle.std.proofs.Common.{◌≡◌, vec_len}
use Rattle.revision_state.specs.Remaining.{remaining}
use Rattle.revision_state.proofs.frame.next_of.Given as goal

abbrev pub invariant-loop-block : goal.invariant-loop-block
invariant-loop-block l = remaining l.blocks.items ≡ remaining l.initial.blocks.items

abbrev pub decreases-loop-block : goal.decreases-loop-block
decreases-loop-block l = vec_len l.blocks

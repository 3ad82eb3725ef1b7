-- Loops of Rest::copy: the blocks that are copied so far are the first of the blocks.
use Rattle.std.proofs.Common.{◌≡◌, take}
use Rattle.revision_state.proofs.frame.Rest.copy.Given as goal

abbrev pub invariant-loop-block : goal.invariant-loop-block
invariant-loop-block l = l.blocks.items ≡ take l.block-index l.block-items

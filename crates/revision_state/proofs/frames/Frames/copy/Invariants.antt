-- Loops of Frames::copy: the copies so far are the first of the frames.
use Rattle.std.proofs.Common.{◌≡◌, take}
use Rattle.revision_state.proofs.frames.Frames.copy.Given as goal

abbrev pub invariant-loop-frame : goal.invariant-loop-frame
invariant-loop-frame l = l.frames.items ≡ take l.frame-index l.frame-items

-- Loops of copy_noted: the copies so far stand for the first of the list.
use Rattle.std.proofs.Common.{◌≡◌, take, map}
use Rattle.revision_state.specs.Phases.{noted}
use Rattle.revision_state.proofs.phase.copy_noted.Given as goal

abbrev pub invariant-loop-noted : goal.invariant-loop-noted
invariant-loop-noted l = map noted l.copy.items ≡ map noted (take l.noted-index l.list)

-- Loops of copy_revisions: the copies so far are the first of the revisions.
use Rattle.std.proofs.Common.{◌≡◌, take}
use Rattle.revision_machine.proofs.two_orders.copy_revisions.Given as goal

abbrev pub invariant-loop-revision : goal.invariant-loop-revision
invariant-loop-revision g l = l.copy.items ≡ take l.revision-index l.revisions

-- Loops of copy_changes: the copies so far are the first of the writes.
use Rattle.std.proofs.Common.{◌≡◌, take}
use Rattle.trace_diagram.proofs.copies.copy_changes.Given as goal

abbrev pub invariant-loop-change : goal.invariant-loop-change
invariant-loop-change l = l.copy.items ≡ take l.change-index l.changes

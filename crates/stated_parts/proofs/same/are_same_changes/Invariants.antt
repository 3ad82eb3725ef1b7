-- Loops of are_same_changes: the changes so far are the same in both lists.
use Rattle.std.proofs.Common.{◌≡◌, take}
use Rattle.stated_parts.proofs.same.are_same_changes.Given as goal

abbrev pub invariant-loop-i : goal.invariant-loop-i
invariant-loop-i l = take l.i l.a ≡ take l.i l.b

-- Loops of append_copies: the list is that at first with the copies so far of the merge.
use Rattle.std.proofs.Common.{◌≡◌, ◌++◌, replicate}
use Rattle.revision_state.proofs.tables.append_copies.Given as goal

abbrev pub invariant-loop-i : goal.invariant-loop-i
invariant-loop-i l = l.list.items ≡ l.initial.list.items ++ replicate l._i l.merge

-- Loops of append_copies: the list is what it was, followed by the choice as many times as there were turns.
use Rattle.std.proofs.Common.{◌≡◌, ◌++◌, replicate}
use Rattle.kernel_choices.proofs.choosing.append_copies.Given as goal

abbrev pub invariant-loop-i : goal.invariant-loop-i
invariant-loop-i l = l.list.items ≡ l.initial.list.items ++ replicate l._i l.choice

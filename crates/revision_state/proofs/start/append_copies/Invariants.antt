-- Loops of append_copies: the locations are those at first with the fresh copies so far.
use Rattle.std.proofs.Common.{◌≡◌, ◌++◌, replicate}
use Rattle.revision_calculus.specs.State.{fresh}
use Rattle.revision_state.proofs.start.append_copies.Given as goal

abbrev pub invariant-loop-i : goal.invariant-loop-i
invariant-loop-i l = l.locations.items ≡ l.initial.locations.items ++ fresh (replicate l._i l.value)

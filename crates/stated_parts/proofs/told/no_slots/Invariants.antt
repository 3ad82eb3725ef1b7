-- Loops of no_slots: there are as many slots without a write as turns were taken.
use Rattle.std.proofs.Common.{◌≡◌, None, replicate}
use Rattle.stated_parts.proofs.told.no_slots.Given as goal

abbrev pub invariant-loop-n : goal.invariant-loop-n
invariant-loop-n l = l.slots.items ≡ replicate l._n None

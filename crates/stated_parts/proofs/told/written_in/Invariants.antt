-- Loops of written_in: the slots ahead are as at first, and the writes so far with those in them are all writes.
use Rattle.std.proofs.Common.{◌≡◌, ◌++◌, drop, length}
use Rattle.stated_parts.specs.Told.{written_in}
use Rattle.stated_parts.proofs.told.written_in.Given as goal

abbrev pub invariant-loop-n : goal.invariant-loop-n
invariant-loop-n l = record {
  same : drop l.n l.slots.items ≡ drop l.n l.initial.slots.items;
  count : length l.slots.items ≡ length l.initial.slots.items;
  so_far : l.written.items ++ written_in (drop l.n l.initial.slots.items) ≡ written_in l.initial.slots.items;
}

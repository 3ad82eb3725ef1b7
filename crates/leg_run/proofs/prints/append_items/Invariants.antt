-- Loops of append_items: the text so far, with the bytes of the items left, is the whole text.
use Rattle.std.proofs.Common.{◌≡◌, ◌+◌, ◌++◌, ◌≤◌, [], drop}
use Rattle.leg_run.specs.Printed.{bytes_from, gap_at}
use Rattle.leg_run.proofs.prints.append_items.Given as goal

abbrev pub invariant-loop-n : goal.invariant-loop-n
invariant-loop-n l = record {
  text : l.text.items ++ bytes_from (gap_at l.n) l.texts (drop l.n l.items) l.words l.at
      ≡ l.initial.text.items ++ bytes_from [] l.texts l.items l.words l.first;
  few : l.at ≤ l.first + l.n;
}

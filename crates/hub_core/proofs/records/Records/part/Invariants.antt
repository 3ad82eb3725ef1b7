-- Loops of Records::part: what was left so far, with what the records that are left leave, is all.
use Rattle.std.proofs.Common.{◌≡◌, ◌≤◌, ◌+◌, ◌-◌, ◌++◌, ℕ, None, vec_len, vec_capacity}
use Rattle.std.specs.Vec.Iter.{into_iter_items, into_iter_len}
use Rattle.hub_core.specs.Tally.{record_at}
use Rattle.hub_core.specs.Ordered.{ends_of, kept_in}
use Rattle.hub_core.proofs.records.Records.part.Given as goal

abbrev pub invariant-loop : goal.invariant-loop
invariant-loop g l =
    (l.ends.items ++ ends_of (l.born - l.counter) (into_iter_items l.rest) ≡ ends_of l.born l.fn.self.list.items)
    × (l.kept.items ++ kept_in (into_iter_items l.rest) ≡ kept_in l.fn.self.list.items)
    × ((j : ℕ) → l.born ≤ l.counter + j → record_at (into_iter_items l.rest) j ≡ None)
    × (l.counter ≤ l.born) × (vec_len l.ends ≡ l.counter) × (l.born ≤ vec_capacity l.ends)
    × (vec_len l.kept + into_iter_len l.rest ≤ vec_capacity l.kept)

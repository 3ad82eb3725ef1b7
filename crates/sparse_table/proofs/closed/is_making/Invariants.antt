-- Invariants of is_making: no flag that was looked at is 2.
use Rattle.std.proofs.Common.{◌≡◌, ℕ, ◌+◌, ◌*◌, ◌<◌, slice_index}
use Rattle.sparse_table.proofs.closed.is_making.Given as goal

abbrev pub invariant-loop-k : goal.invariant-loop-k
invariant-loop-k l = (l.span ≡ l.initial.span)
    × ((j : ℕ) → j < l.k → ¬ (slice_index l.initial.span.items (l.fn.len + 2 * j + 1) ≡ 2))

-- Loops of copy_of: the copy has the values of the locations so far, and none behind them.
use Rattle.std.proofs.Common.{◌≡◌, ℕ, ◌<◌, ◌≤◌, None}
use Rattle.version_map.specs.Deltas.{at, locations}
use Rattle.segment_store.proofs.store.copies.copy_of.Given as goal

abbrev pub invariant-loop-l : goal.invariant-loop-l
invariant-loop-l l = (locations l.copy ≡ locations l.fn.delta)
    × ((k : ℕ) → k < l.l → at l.copy k ≡ at l.fn.delta k)
    × ((k : ℕ) → l.l ≤ k → k < locations l.fn.delta → at l.copy k ≡ None)

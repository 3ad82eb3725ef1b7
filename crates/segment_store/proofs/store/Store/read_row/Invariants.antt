-- Loops of Store::read_row: the words so far were read, and the seat is as at first.
use Rattle.std.proofs.Common.{◌≡◌, ℕ, ◌+◌, ◌<◌, length, slice_index}
use Rattle.segment_store.specs.Same.{IsSameSeat, IsWord}
use Rattle.segment_store.proofs.store.Store.read_row.Given as goal

abbrev pub invariant-loop-k : goal.invariant-loop-k
invariant-loop-k l = IsSameSeat l.initial.seat l.seat × (length l.words ≡ 64)
    × ((j : ℕ) → j < l.k → IsWord l.initial.seat (l.fn.from + j) (slice_index l.words j))

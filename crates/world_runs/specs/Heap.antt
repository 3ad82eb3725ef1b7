-- Numbers in a heap.
--   above    what is left above a number of 32 bits
--   has      whether a number stands in a list
--   Has      it stands in the heap
--   listed   the numbers in the heap, each as often as it stands there
use Rattle.std.specs.Prelude.{ℕ, ◌≡◌, ◌-◌, Bool, true, List, nat_eq, map}
use Rattle.std.specs.BinaryHeap.{heap_items}
use Rattle.std.specs.List.{list_any}
use Rattle.world_runs.specs.declared.heap.LeastHeap.{LeastHeap}

abbrev pub above : ℕ → ℕ
above n = 4294967295 - n

abbrev pub has : List ℕ → ℕ → Bool
has xs n = list_any (λ x. nat_eq x n) xs

abbrev pub Has : LeastHeap → ℕ → Type 0
Has h n = has (heap_items h.above) (above n) ≡ true

abbrev pub listed : LeastHeap → List ℕ
listed h = map above (heap_items h.above)

-- Numbers that are ready, and numbers that wait.
--   HasReady     the number is ready
--   ready        the numbers that are ready, each as often as it was entered and not taken out
--   entered      how many were entered and not taken out
--   HasWaiter    it waits for this one
--   KeepsAll     all that were ready are, and all that waited do
use Rattle.std.specs.Prelude.{ℕ, ◌≡◌, true, List, Some, slice_get}
use Rattle.std.specs.BinaryHeap.{heap_len}
use Rattle.world_runs.specs.declared.queue.ReadyQueue.{ReadyQueue}
use Rattle.world_runs.specs.declared.queue.Waiters.{Waiters}
use Rattle.world_runs.specs.Heap.{has, Has, listed}

abbrev pub HasReady : ReadyQueue → ℕ → Type 0
HasReady q n = Has q.ready n

abbrev pub ready : ReadyQueue → List ℕ
ready q = listed q.ready

-- how many numbers were entered and not yet taken out
abbrev pub entered : ReadyQueue → ℕ
entered q = heap_len q.ready.above

pub record HasWaiter (q : ReadyQueue) (on n : ℕ) : Type 0 where
  pub waiters : Waiters
  pub there : slice_get q.waiters.items on ≡ Some waiters
  pub among : has waiters.numbers.items n ≡ true

pub record KeepsAll (q q' : ReadyQueue) : Type 0 where
  pub ready : (n : ℕ) → HasReady q n → HasReady q' n
  pub waits : (on n : ℕ) → HasWaiter q on n → HasWaiter q' on n

-- Loops of add_all: the heap has each number so far, and each that it had at first.
use Rattle.std.proofs.Common.{◌≡◌, ℕ, true, take}
use Rattle.world_runs.specs.Heap.{has, Has}
use Rattle.world_runs.proofs.queue.add_all.Given as goal

abbrev pub invariant-loop-at : goal.invariant-loop-at
invariant-loop-at l = record {
  here : (n : ℕ) → has (take l.at l.numbers) n ≡ true → Has l.ready n;
  kept : (n : ℕ) → Has l.initial.ready n → Has l.ready n;
}

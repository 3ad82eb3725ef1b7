-- Loops of all_ready: the numbers so far are ready, and the queue has a list of waiters for each.
use Rattle.std.proofs.Common.{◌≡◌, ◌<◌, ℕ, length}
use Rattle.world_runs.specs.Queue.{HasReady}
use Rattle.world_runs.proofs.ending.all_ready.Given as goal

abbrev pub invariant-loop-number : goal.invariant-loop-number
invariant-loop-number l = record {
  count : length l.queue.waiters.items ≡ l.number;
  ready : (m : ℕ) → m < l.number → HasReady l.queue m;
}

-- Answers of ReadyQueue::enter: the heap keeps all that were ready, and the lists of waiters are not touched.
use Rattle.world_runs.proofs.queue.ReadyQueue.enter.Goals as goal

pub returns-clause-kept : goal.returns-clause-kept
returns-clause-kept c = record {
  ready = c.in_ok-add.ensures.kept;
  waits = λ on n h. record { waiters = h.waiters; there = h.there; among = h.among };
}

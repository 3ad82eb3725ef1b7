-- Answers of ReadyQueue::grow: one more list at the end leaves each list of waiters at its place.
use Rattle.std.proofs.Common.{◌∙◌, ap}
use Rattle.std.specs.Prelude.{slice_get}
use Rattle.world_runs.proofs.Queues.{front}
use Rattle.world_runs.proofs.queue.ReadyQueue.grow.Goals as goal

pub returns-clause-kept : goal.returns-clause-kept
returns-clause-kept c = record {
  ready = λ n h. h;
  waits = λ on n h. record {
    waiters = h.waiters;
    there = ap (λ xs. slice_get xs on) c.in_ok-push.ensures.items
        ∙ front c.args.self.now.waiters.items _ on h.waiters h.there;
    among = h.among;
  };
}

-- Answers of ReadyQueue::wake: who waited is in the list that is taken out, and each number of that is made ready.
use Rattle.std.proofs.Common.{◌≡◌, ◌∙◌, true, sym, subst}
use Rattle.world_runs.specs.Heap.{has}
use Rattle.world_runs.proofs.Queues.{set_other, found}
use Rattle.world_runs.proofs.queue.ReadyQueue.wake.Goals as goal

pub returns-clause-woken : goal.returns-clause-woken
returns-clause-woken c = λ n h.
    let same =
    found c.args.self.now.waiters.items c.args.on h.waiters c.index_mut.result.now c.index_mut.ensures.value h.there in
    c.in_ok-add_all.ensures.here n (subst (λ xs. has xs n ≡ true) (sym c.as_slice.ensures.value)
    (subst (λ w. has w.numbers.items n ≡ true) (sym (c.replace-woken.ensures.value ∙ same)) h.among))

pub returns-clause-others : goal.returns-clause-others
returns-clause-others c = λ k n other h. record {
  waiters = h.waiters;
  there = set_other c.args.self.now.waiters.items c.args.on k c.replace-woken.new.dest other ∙ h.there;
  among = h.among;
}

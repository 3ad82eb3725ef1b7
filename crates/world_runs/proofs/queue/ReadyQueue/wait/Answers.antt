-- Answers of ReadyQueue::wait: the number goes to the end of one list of waiters, and the other lists stay the same.
use Rattle.std.proofs.Common.{◌≡◌, ◌∙◌, true, sym, ap, subst}
use Rattle.std.specs.Prelude.{slice_get}
use native.Mathlib.Decide.{ℕ_discrete}
use Rattle.world_runs.specs.Heap.{has}
use Rattle.world_runs.proofs.Queues.{set_here, set_other, found, has_front, has_end}
use Rattle.world_runs.proofs.queue.ReadyQueue.wait.Goals as goal

pub returns-clause-here : goal.returns-clause-here
returns-clause-here c = record {
  waiters = record { numbers = c.push.new.self };
  there = set_here c.args.self.now.waiters.items c.args.on (record { numbers = c.push.new.self }) c.requires;
  among = subst (λ xs. has xs c.args.number ≡ true) (sym c.in_ok-push.ensures.items)
      (has_end c.index_mut.result.now.numbers.items c.args.number);
}

pub returns-clause-kept : goal.returns-clause-kept
returns-clause-kept c = record {
  ready = λ n h. h;
  waits = λ on n h. elim (ℕ_discrete on c.args.on) [
    | yes is ↦ record {
      waiters = record { numbers = c.push.new.self };
      there = ap (slice_get _) is
          ∙ set_here c.args.self.now.waiters.items c.args.on (record { numbers = c.push.new.self }) c.requires;
      among = (let same =
          found c.args.self.now.waiters.items c.args.on h.waiters c.index_mut.result.now c.index_mut.ensures.value
          (ap (slice_get c.args.self.now.waiters.items) (sym is) ∙ h.there) in
          subst (λ xs. has xs n ≡ true) (sym c.in_ok-push.ensures.items)
          (has_front c.index_mut.result.now.numbers.items _ n
          (subst (λ w. has w.numbers.items n ≡ true) (sym same) h.among)));
    }
    | no other ↦ record {
      waiters = h.waiters;
      there = set_other c.args.self.now.waiters.items c.args.on on (record { numbers = c.push.new.self }) other
          ∙ h.there;
      among = h.among;
    }
  ];
}

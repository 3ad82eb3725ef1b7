-- Answers of RunQueue::put_first: the number stands in no list, so linking it first leaves the others.
use Rattle.hub_core.specs.Chains.{chain_at}
use Rattle.hub_core.proofs.run_queue.RunQueue.put_first.Goals as goal

pub returns-clause-lists : goal.returns-clause-lists
returns-clause-lists c = λ ready waits h no. record {
  ready_is = c.before-chain.ensures.chain ready h.ready_is no.in_ready;
  waits_are = λ m. c.before-chain.ensures.others (chain_at c.args.self.now.waiters.items m) (waits m) (no.in_waits m)
      (h.waits_are m);
}

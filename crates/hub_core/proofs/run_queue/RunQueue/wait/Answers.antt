-- Answers of RunQueue::wait: the number stands in no list, so linking it before those that wait leaves the others.
use Rattle.std.proofs.Common.{sym, subst}
use Rattle.hub_core.specs.Chains.{IsList, chain_at}
use Rattle.hub_core.proofs.Ways.{waits_put}
use Rattle.hub_core.proofs.run_queue.RunQueue.wait.Goals as goal

pub returns-clause-lists : goal.returns-clause-lists
returns-clause-lists c = λ ready waits h no. record {
  ready_is = c.before-chain.ensures.others c.args.self.now.ready ready no.in_ready h.ready_is;
  waits_are = waits_put c.before-chain.new.links.items c.args.self.now.waiters.items c.args.on c.args.number
      c.before-chain.result waits c.requires.1
      (c.before-chain.ensures.chain (waits c.args.on)
      (subst (λ l. IsList c.args.self.now.links.items l (waits c.args.on)) (sym c.waiting_for-waiting.ensures)
      (h.waits_are c.args.on))
      (no.in_waits c.args.on))
      (λ m. c.before-chain.ensures.others (chain_at c.args.self.now.waiters.items m) (waits m) (no.in_waits m)
      (h.waits_are m));
}

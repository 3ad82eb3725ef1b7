-- Answers of RunQueue::wake: no number is in two lists, so those that waited join the ready ones and the rest stays.
use Rattle.std.proofs.Common.{◌∙◌, sym, subst, arith}
use Rattle.hub_core.specs.Chains.{IsList, chain_at}
use Rattle.hub_core.proofs.Ways.{waits_gone, last_in}
use Rattle.hub_core.proofs.run_queue.RunQueue.wake.Goals as goal

pub returns-in-Some-clause-lists : goal.returns-in-Some-clause-lists
returns-in-Some-clause-lists c = λ ready waits h once.
    let links = c.args.self.now.links.items in
    let woken =
    subst (λ o. IsList links o (waits c.args.number)) (sym c.waiting_for.ensures ∙ c.in-Some.is)
    (h.waits_are c.args.number) in
    let some = last_in links c.in-Some.woken (waits c.args.number) woken in
    record {
      ready_is = c.joined-chain.ensures.chain (waits c.args.number) ready woken h.ready_is
          (λ n. once.in_ready c.args.number n);
      waits_are = waits_gone c.joined-chain.new.links.items c.args.self.now.waiters.items c.args.number waits
          c.requires.0
          (λ m ne. c.joined-chain.ensures.others (chain_at c.args.self.now.waiters.items m) (waits m)
          (let a = once.in_waits c.args.number m c.in-Some.woken.last (λ e. ne (sym e)) in omega arith)
          (h.waits_are m));
    }

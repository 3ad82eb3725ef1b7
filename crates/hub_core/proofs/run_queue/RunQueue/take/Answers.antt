-- Answers of RunQueue::take: what is ready stands in the list once, so behind its first is the rest of it.
use Rattle.std.proofs.Common.{rules, ◌≡◌, Some, sym, subst, arith}
use Rattle.hub_core.specs.Chains.{IsList}
use Rattle.hub_core.proofs.run_queue.RunQueue.take.Goals as goal

pub returns-clause-lists : goal.returns-clause-lists
returns-clause-lists c = λ ready waits h once.
    let some : c.args.self.now.ready ≡ Some c.in_ok-chain.chain = search rules in
    let slice = c.as_slice.ensures.value in
    let rest = c.after_first-self.ensures.rest ready
    (subst (λ l. IsList l (Some c.in_ok-chain.chain) ready) (sym slice)
    (subst (λ o. IsList c.args.self.now.links.items o ready) some h.ready_is))
    (λ n. let a = once.in_ready 0 n in omega arith) in (
      rest.0,
      rest.1,
      record {
        ready_is = subst (λ l. IsList l c.after_first-self.result rest.0) slice rest.2;
        waits_are = h.waits_are;
      },
    )

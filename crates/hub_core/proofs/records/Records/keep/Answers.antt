-- Answers of Records::keep: reaching the number keeps all lists, so waiting in them is waiting in the old ones.
use Rattle.std.proofs.Common.{length, sym, ap, ◌∙◌, subst, arith}
use Rattle.hub_core.specs.Chains.{HasLists, with_waiter}
use Rattle.hub_core.proofs.records.Records.keep.Goals as goal

pub returns-clause-ok : goal.returns-clause-ok
returns-clause-ok g c =
    let queue = c.put_back.ensures.queue in
    let reach = c.reach.ensures.same in
    let wait = c.wait.ensures.same in
    let first = reach.2.1 in
    let next = wait.1.1 in
    let last = ap (λ q. length q.waiters.items) queue in (
      c.put_back.ensures.now,
      (
        (λ ready waits h no.
            subst (λ q. HasLists q ready (with_waiter waits c.args.on c.args.number)) (sym queue)
            (c.wait.ensures.lists ready waits (reach.0 ready waits h) no)),
        ap (λ q. q.unfinished) queue ∙ (wait.0 ∙ reach.1),
        (ap (λ q. length q.links.items) queue ∙ (wait.1.0 ∙ reach.2.0), omega arith),
      ),
    )

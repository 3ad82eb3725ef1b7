-- Answers of RunQueue::reach: longer by empty lists is the same for each number, and the links are not touched.
use Rattle.std.proofs.Common.{refl, sym, subst}
use Rattle.hub_core.specs.Chains.{IsList}
use Rattle.hub_core.proofs.run_queue.RunQueue.reach.Goals as goal

pub returns-clause-same : goal.returns-clause-same
returns-clause-same c = (
  (λ ready waits h. record {
    ready_is = h.ready_is;
    waits_are = λ m.
        subst (λ l. IsList c.args.self.now.links.items l (waits m)) (sym (c.lengthen.ensures.same m)) (h.waits_are m);
  }),
  refl,
  (refl, c.lengthen.ensures.long),
)

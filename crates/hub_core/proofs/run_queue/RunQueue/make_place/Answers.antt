-- Answers of RunQueue::make_place: a link that stands in no list leaves all lists as they were.
use Rattle.std.proofs.Common.{List, ℕ, [], ◌∷◌, Option, sym, subst}
use Rattle.hub_core.specs.declared.run_queue.Chain.{Chain}
use Rattle.hub_core.specs.Chains.{IsList, chain_at}
use Rattle.hub_core.proofs.Ways.{list_more}
use Rattle.hub_core.proofs.run_queue.RunQueue.make_place.Goals as goal

pub returns-clause-lists : goal.returns-clause-lists
returns-clause-lists c = λ ready waits h.
    let q = c.args.self.now in
    let more = c.append.ensures.items in
    record {
      ready_is = subst (λ l. IsList l q.ready ready) (sym more)
          (list_more q.links.items (0 ∷ []) q.ready ready h.ready_is);
      waits_are = λ m. subst (λ (z : List ℕ × Option Chain). IsList z.0 z.1 (waits m))
          (λ i. (sym more i, sym (c.cover.ensures.same m) i))
          (list_more q.links.items (0 ∷ []) (chain_at q.waiters.items m) (waits m) (h.waits_are m));
    }

-- Answers of Records::bear: nothing stood there, and of what is ready its number is the first,
-- one more that has not ended.
use Rattle.std.proofs.Common.{◌≡◌, ◌+◌, ◌∷◌, sym, ap, ◌∙◌, subst, arith}
use Rattle.hub_core.specs.Chains.{Adds, IsAsLong}
use Rattle.hub_core.proofs.Places.{record_is, put_is}
use Rattle.hub_core.proofs.records.Records.bear.Goals as goal

pub empty-requires : goal.empty-requires
empty-requires g c = sym (record_is c.args.self.now.list.items c.args.number c.swap.result c.swap.ensures.was)
    ∙ c.requires.none

pub returns-clause-now : goal.returns-clause-now
returns-clause-now g c = c.swap.ensures.now ∙ put_is _ _ _

pub returns-clause-queue : goal.returns-clause-queue
returns-clause-queue g c =
    let first = c.put_first.ensures.same in
    let more = c.begin_one.ensures.long in
    let a = first.1.1 in
    let b = more.1 in
    subst (λ q.
    Adds c.args.self.now.queue q c.args.number × (q.unfinished ≡ c.args.self.now.queue.unfinished + 1)
    × IsAsLong c.args.self.now.queue q)
    (sym c.swap.ensures.queue) (
      (λ ready waits h no.
          c.begin_one.ensures.lists (c.args.number ∷ ready) waits (c.put_first.ensures.lists ready waits h no)),
      c.begin_one.ensures.count ∙ ap (λ u. u + 1) first.0,
      (more.0 ∙ first.1.0, omega arith),
    )

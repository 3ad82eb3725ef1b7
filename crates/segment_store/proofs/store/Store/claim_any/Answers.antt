-- Answers of Store::claim_any: without segments there is none, and else all are behind the beginning or before it.
use Rattle.std.proofs.Common.{arith, refl, []}
use Rattle.segment_store.proofs.Looks.{found_all, log_then, log_then_claims, none_in}
use Rattle.segment_store.proofs.store.Store.claim_any.Goals as goal

pub returns-then-self-eq0-clause-none : goal.returns-then-self-eq0-clause-none
returns-then-self-eq0-clause-none c = λ _. (
  (refl, refl, refl),
  (
    [],
    refl,
    λ d b. absurd (none_in _ _ c.args.self.now.segments d c.if-self-eq0.true
        c.args.self.now.rowed.1 b),
  ),
)

pub returns-clause-some : goal.returns-clause-some
returns-clause-some c = λ more.
    let none = c.claim_between-segment.ensures.none (let h = c.if-segment-gt0.false in omega arith)
    in let some = c.claim_between.ensures.some more in (
      log_then_claims c.args.seat.now c.claim_between-segment.new.seat c.claim_between.new.seat
          c.claim_between.result none.0 some.0,
      some.1,
      some.2,
    )

pub returns-clause-none : goal.returns-clause-none
returns-clause-none c = λ no.
    let late = c.claim_between-segment.ensures.none (let h = c.if-segment-gt0.false in omega arith)
    in let early = c.claim_between.ensures.none no in (
      log_then c.args.seat.now c.claim_between-segment.new.seat c.claim_between.new.seat late.0
          early.0,
      found_all _ _ c.begin_at-begin.result _ _ _ late.1 early.1,
    )

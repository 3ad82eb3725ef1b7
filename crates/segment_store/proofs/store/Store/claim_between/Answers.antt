-- Answers of Store::claim_between: a count that was found goes into the seat's log, and then comes the next segment.
use Rattle.std.proofs.Common.{arith, ◌∷◌, ◌∙◌, ap, refl, List, []}
use Rattle.std.proofs.Math.Nat.{add-mod_right}
use Rattle.segment_store.specs.Entry.{Look}
use Rattle.segment_store.proofs.Looks.{log_more, log_claims, found_next, room_after}
use Rattle.segment_store.proofs.store.Store.claim_between.Goals as goal

pub loop-segment-init : goal.loop-segment-init
loop-segment-init c = (
  (refl, refl, refl),
  c.requires.between.1,
  c.requires.between.0,
  ([], refl, λ d b low lt. absurd (omega arith)),
)

pub loop-segment-preserved : goal.loop-segment-preserved
loop-segment-preserved c = let i = c.loop-segment.invariant in
    let t = c.claim.ensures.taken c.if-claim.false in
    let m = log_more c.args.seat.now c.loop-segment.seat c.claim.new.seat c.loop-segment.segment t.0
    i.0 t.2 in let p = i.2 in (
      m.0,
      add-mod_right c.loop-segment.segment c.args.self.now.stride ∙ i.1,
      omega arith,
      (
        record { segment = c.loop-segment.segment; count = t.0 } ∷ i.3.0,
        m.1 ∙ ap (λ (ls : List Look). record { segment = c.loop-segment.segment; count = t.0 } ∷ ls)
            i.3.1,
        found_next _ _ _ c.loop-segment.segment t.0 i.3.0 i.1 t.1 i.3.2,
      ),
    )

pub returns-then-claim-clause-some : goal.returns-then-claim-clause-some
returns-then-claim-clause-some c = λ _. let i = c.loop-segment.invariant in (
  log_claims c.args.seat.now c.loop-segment.seat c.claim.new.seat c.loop-segment.segment i.0
      (c.claim.ensures.claimed c.if-claim.true),
  (i.2, i.1, (let h = c.loop-segment-test.true in let w = c.requires.between.2 in omega arith)),
  room_after _ _ _ i.1 c.args.self.now.wide.1
      (let h = c.loop-segment-test.true in let w = c.requires.between.2 in omega arith),
)

pub returns-clause-none : goal.returns-clause-none
returns-clause-none c = λ _. let i = c.loop-segment.invariant in
    let h = c.loop-segment-test.false in
    (i.0, (i.3.0, i.3.1, λ d b low lt. i.3.2 d b low (omega arith)))

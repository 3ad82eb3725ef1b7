-- Answers of Store::push: claim, fill, publish, tally and hand-on change the view in a row to that of a fork.
use Rattle.std.proofs.Common.{arith, ◌≡◌, ℕ, List, sym, ap, ◌∙◌, subst}
use Rattle.segment_store.specs.Places.{view}
use Rattle.segment_store.specs.declared.board.SegmentView.{SegmentView}
use Rattle.segment_store.specs.Store.{first_of, claims, publishes, counts, hands_left, hands_right}
use Rattle.segment_store.specs.Base.{IsLaid, filled, logged, Forked}
use Rattle.segment_store.proofs.ChainWalks.{row_of, rests_log}
use Rattle.segment_store.proofs.Forks.{forked, unlogged}
use Rattle.segment_store.proofs.store.Store.push.Goals as goal

pub returns-clause-some : goal.returns-clause-some
returns-clause-some c = let some = c.claim_any-segment.ensures.some
    (let h = c.if-segment-eq0.false in omega arith) in let made = (view c.fill.new.seat).made in
    let v = view c.args.seat.now in let log = (view c.claim_any-segment.new.seat).log in
    let e1 = some.0.2 in let e2 = c.fill.ensures.view.2 in
    let e3 = c.publish.ensures.view.2 in
    let e4 = c.tally.ensures.2 in
    let e5 = c.hand_on-child.ensures.kept.2 in
    let e6 = c.hand_on-child.ensures.given.1 in
    let before = e4 ∙ ap counts (e3 ∙ ap publishes (e2 ∙ ap (λ (u : SegmentView). filled u made) e1)) in
    let w = c.args.self.now.wide in let w0 = w.0 in
    let done : (root : List ℕ)
    → Forked root c.args.self.now.words c.args.self.now.stride c.args.self.now.masks
    c.claim_any-segment.result c.args.depth c.complete.new.delta v
    (hands_left (counts
    (publishes (filled (claims (logged v log) c.claim_any-segment.result) made))))
    (hands_right (counts
    (publishes (filled (claims (logged v log) c.claim_any-segment.result) made)))) =
    λ root. unlogged root v log
    (forked root c.args.self.now.words c.args.self.now.stride c.args.self.now.masks
    c.claim_any-segment.result c.args.first c.args.depth c.complete.new.delta (logged v log)
    made c.fill.ensures.laid
    (λ l h. row_of _ _ l c.args.self.now.rowed.0 (omega arith)) (omega arith)
    (rests_log v log c.requires.rests) some.1 some.2) in (
      (let h = c.if-segment-eq0.false in omega arith),
      c.hand_on-child.ensures.given.0
          ∙ (c.tally.ensures.0 ∙ (c.publish.ensures.view.0 ∙ (c.fill.ensures.view.0 ∙ some.0.0))),
      subst (λ (z : SegmentView × SegmentView). (root : List ℕ)
          → Forked root c.args.self.now.words c.args.self.now.stride c.args.self.now.masks
          c.claim_any-segment.result c.args.depth c.complete.new.delta v z.0 z.1)
          (λ i. (sym (e5 ∙ ap hands_left before) i, sym (e6 ∙ ap hands_right before) i)) done,
    )

pub publish-requires-clause-laid : goal.publish-requires-clause-laid
publish-requires-clause-laid c = let some = c.claim_any-segment.ensures.some
    (let h = c.if-segment-eq0.false in omega arith) in let made = (view c.fill.new.seat).made in
    let same : c.args.first ≡ first_of (view c.fill.new.seat).chain = c.requires.rests.head
    ∙ sym (ap (λ (m : SegmentView). first_of m.chain) c.fill.ensures.view.2
    ∙ ap (λ (m : SegmentView). first_of m.chain) some.0.2) in (
      c.complete.new.delta,
      subst (λ (n : ℕ). IsLaid c.claim_any-segment.result n c.args.self.now.stride
          c.args.self.now.masks c.complete.new.delta made) same c.fill.ensures.laid,
    )

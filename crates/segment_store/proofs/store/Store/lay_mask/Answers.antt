-- Answers of Store::lay_mask: a mask word more is laid down.
use Rattle.std.proofs.Common.{arith, ◌≡◌, ℕ, ◌∙◌, ap, refl, subst}
use mathlib.Core.Option.{some}
use Rattle.segment_store.specs.Places.{view}
use Rattle.segment_store.specs.Filling.{Filling}
use Rattle.segment_store.proofs.Fills.{fills_more, filling_mask}
use Rattle.segment_store.proofs.store.Store.lay_mask.Goals as goal

pub loop-k-init : goal.loop-k-init
loop-k-init c = ((refl, refl, refl), c.requires.there, λ parent f. f)

pub loop-k-preserved : goal.loop-k-preserved
loop-k-preserved c =
    let i = c.loop-k.invariant in let s = c.args.self.now in let laid = c.lay.ensures in (
      fills_more c.args.seat.now c.loop-k.seat c.lay.new.seat i.0 laid.view,
      laid.there,
      λ parent f. filling_mask c.args.segment parent s.masks c.args.delta.now c.loop-k.k (view c.loop-k.seat).made
          (view c.lay.new.seat).made c.loop-k-test.true (i.2 parent f) (laid.here ∙ ap some c.mask_row.ensures)
          laid.others,
    )

pub returns-clause-laid : goal.returns-clause-laid
returns-clause-laid c = λ parent f. let i = c.loop-k.invariant in let s = c.args.self.now in
    let all : c.loop-k.k ≡ s.masks = omega (arith, c.loop-k.auto.k-end, c.loop-k-test.false) in
    subst (λ (n : ℕ). Filling c.args.segment parent s.masks c.args.delta.now n 0 (view c.loop-k.seat).made)
    all (i.2 parent f)

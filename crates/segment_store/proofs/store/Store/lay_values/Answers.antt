-- Answers of Store::lay_values: a value that is put adds its location to what is laid, and those before it have none.
use Rattle.std.proofs.Common.{arith, ◌≡◌, ◌+◌, List, refl, subst}
use Rattle.version_map.specs.Deltas.{locations}
use Rattle.segment_store.specs.Places.{view}
use Rattle.segment_store.specs.Entry.{Put}
use Rattle.segment_store.specs.Filling.{Filling}
use Rattle.segment_store.proofs.Fills.{filling_at, filling_jump, puts_more}
use Rattle.segment_store.proofs.store.Store.lay_values.Goals as goal

pub loop-l-init : goal.loop-l-init
loop-l-init c = ((refl, refl, refl), c.requires.there, λ parent f. f, omega arith)

pub loop-l-smaller : goal.loop-l-smaller
loop-l-smaller c =
    let low = c.in-Some.ensures.0 in let within = c.in-Some.ensures.1 in omega (arith, low, within)

pub loop-l-preserved : goal.loop-l-preserved
loop-l-preserved c =
    let i = c.loop-l.invariant in let s = c.args.self.now in let d = c.args.delta.now in
    let segment = c.args.segment in let l = c.in-Some.l in let next = c.in-Some.ensures in
    let low = next.0 in let within = next.1 in
    let place : segment + (2 + s.masks) + l ≡ segment + (2 + s.masks + l) = omega arith in
    let p = puts_more c.args.seat.now c.loop-l.seat c.put.new.seat _ _ i.0 c.put.ensures.view in (
      p.0,
      c.put.ensures.there,
      λ parent f. subst (λ (ps : List Put). Filling segment parent s.masks d s.masks (l + 1) ps) p.1
          (filling_at segment parent s.masks d l _ _ (view c.loop-l.seat).made place
          (filling_jump segment parent s.masks d c.loop-l.from l _ (i.2 parent f) next.3 low) c.word.ensures),
      omega (arith, within),
    )

pub returns-clause-laid : goal.returns-clause-laid
returns-clause-laid c = λ parent f.
    let i = c.loop-l.invariant in let d = c.args.delta.now in
    filling_jump c.args.segment parent c.args.self.now.masks d c.loop-l.from (locations d) _ (i.2 parent f)
    c.in_default.ensures i.3

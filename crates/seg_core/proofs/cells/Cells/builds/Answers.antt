-- Answers of Cells::builds: a segment that the holder builds is found, and past the last one there is none.
use Rattle.std.proofs.Common.{◌≡◌, ◌≢◌, ℕ, suc, sym, ap, ◌∙◌, subst, arith}
use mathlib.Core.Option as m
use mathlib.Core.Logic.{dite}
use native.Mathlib.Decide.{ℕ_discrete}
use lib.ListN.{get_elem?}
use Rattle.seg_core.specs.declared.segment.Segment.{Segment}
use Rattle.seg_core.specs.Shape.{seg_of, IsBuiltBy}
use Rattle.seg_core.proofs.Maps.{elem_at, map_at, none_built, was_true, was_false}
use Rattle.seg_core.proofs.cells.Cells.builds.Goals as goal

pub returns-then-is_built_by : goal.returns-then-is_built_by
returns-then-is_built_by c = λ none. let items = c.args.self.now.segments.items in
    let g = c.index.result.now in let at : ℕ = c.loop-at.at in
    let here = elem_at items at g c.index.ensures (let t = c.loop-at-test.true in
    let l = c.len-at-end.ensures in omega arith) in
    let built = was_true c.is_built_by.result _ _ c.is_built_by.ensures c.if-is_built_by.true in
    none (suc at) built.0 (map_at seg_of items at g here ∙ ap m.some built.1)

pub loop-at-preserved : goal.loop-at-preserved
loop-at-preserved c = λ k lt g e. let items = c.args.self.now.segments.items in
    let x = c.index.result.now in let at : ℕ = c.loop-at.at in dite (ℕ_discrete k at)
    (λ (is : k ≡ at). let here = elem_at items at x c.index.ensures (let t = c.loop-at-test.true in
    let l = c.len-at-end.ensures in omega arith) in
    subst (λ (z : Segment). ¬ (IsBuiltBy (seg_of z) c.args.holder))
    (m.some-injective x g (sym here ∙ (ap (get_elem? items) (sym is) ∙ e)))
    (was_false c.is_built_by.result _ _ c.is_built_by.ensures c.if-is_built_by.false))
    (λ (ne : k ≢ at). c.loop-at.invariant k (omega arith) g e)

pub returns : goal.returns
returns c = none_built c.args.self.now.segments.items c.args.self.now.holders.items
    c.args.self.now.locations c.args.holder c.loop-at.at (let t = c.loop-at-test.false in
    let l = c.len-at-end.ensures in omega arith) c.loop-at.invariant

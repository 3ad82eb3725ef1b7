-- Answers of Cells::stage: a number past the last segment has none, and any other stands as its stage says.
use Rattle.std.proofs.Common.{suc, subst, arith}
use Rattle.seg_core.specs.declared.segment.Stage.{Stage}
use Rattle.seg_core.specs.Core.{At}
use Rattle.seg_core.specs.Cells.{core_of}
use Rattle.seg_core.specs.Shape.{shape, seg_of, delta_of}
use Rattle.seg_core.proofs.Maps.{elem_at, map_at, map_past, some_same}
use Rattle.seg_core.proofs.cells.Cells.stage.Goals as goal

pub returns-then-at-len-clause-none : goal.returns-then-at-len-clause-none
returns-then-at-len-clause-none c = λ e x. map_past seg_of c.args.self.now.segments.items
    c.args.segment (let t = c.if-at-len.true in let l = c.len.ensures in omega arith) x

pub returns-clause-some : goal.returns-clause-some
returns-clause-some c = λ x e. let g = c.index.result.now in (
  delta_of g,
  subst (λ (s : Stage). At (core_of c.args.self.now) (suc c.args.segment) (shape s (delta_of g)))
      (some_same g.stage x e)
      (map_at seg_of c.args.self.now.segments.items c.args.segment g
      (elem_at c.args.self.now.segments.items c.args.segment g c.index.ensures
      (let t = c.if-at-len.false in let l = c.len.ensures in omega arith))),
)

-- Answers of Cells::references: a number past the last holder has no list, and any other has that of its references.
use Rattle.std.proofs.Common.{subst, arith}
use Rattle.seg_core.specs.Core.{Has}
use Rattle.seg_core.specs.Cells.{core_of}
use Rattle.seg_core.specs.declared.segment.References.{References}
use Rattle.seg_core.specs.Shape.{list_of}
use Rattle.seg_core.proofs.Maps.{elem_at, map_at, map_past, some_same}
use Rattle.seg_core.proofs.cells.Cells.references.Goals as goal

pub returns-then-at-len-clause-none : goal.returns-then-at-len-clause-none
returns-then-at-len-clause-none c = λ e x. map_past list_of c.args.self.now.holders.items
    c.args.holder (let t = c.if-at-len.true in let l = c.len.ensures in omega arith) x

pub returns-clause-some : goal.returns-clause-some
returns-clause-some c = λ x e. let g = c.index.result.now in
    subst (λ (s : References). Has (core_of c.args.self.now) c.args.holder (list_of s))
    (some_same g x e)
    (map_at list_of c.args.self.now.holders.items c.args.holder g
    (elem_at c.args.self.now.holders.items c.args.holder g c.index.ensures
    (let t = c.if-at-len.false in let l = c.len.ensures in omega arith)))

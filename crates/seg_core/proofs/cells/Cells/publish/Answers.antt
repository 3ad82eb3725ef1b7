-- Answers of Cells::publish: the builder refers to its parent alone, and the segment gets its two references.
use Rattle.std.proofs.Common.{suc, [], ◌∷◌, ap, ◌∙◌, arith}
use Rattle.seg_core.specs.declared.segment.Stage.TheVariants as stage
use Rattle.seg_core.specs.Core.{Core}
use Rattle.seg_core.specs.Steps as core
use Rattle.seg_core.specs.Shape.{name_of, list_of}
use Rattle.seg_core.proofs.Maps.{map_inside}
use Rattle.seg_core.proofs.Refers.{building_not_free}
use Rattle.seg_core.proofs.cells.Cells.publish.Goals as goal

pub turn-requires : goal.turn-requires
turn-requires c = (
  stage.Building c.args.holder,
  c.if-not-is_built.ensures.0,
  c.if-not-is_built.ensures.1,
)

pub refer-requires : goal.refer-requires
refer-requires c = let h = map_inside list_of c.args.self.now.holders.items c.args.holder _
    (c.single.ensures.some c.in-Some.parent c.in-Some.is) in let long = c.args.self.now.long in
    let long1 = long.1 in omega arith

pub returns-in-Some-clause-done : goal.returns-in-Some-clause-done
returns-in-Some-clause-done c = λ done. let b = c.if-not-is_built.ensures in (
  b.0,
  name_of c.in-Some.parent,
  omega arith,
  b.1,
  c.single.ensures.some c.in-Some.parent c.in-Some.is,
  c.refer.ensures
      ∙ ap (λ (k : Core). core.list_to k c.args.holder (suc c.args.segment ∷ suc c.args.segment
      ∷ [])) (c.turn.ensures.words (stage.Building c.args.holder) b.0
      (building_not_free c.args.holder) b.1),
)

-- Answers of Cells::share: a live count is that of all references, which are few, so it can take one more.
use Rattle.std.proofs.Common.{suc, [], ◌∷◌, ap, ◌∙◌, arith}
use Rattle.seg_core.specs.declared.segment.Stage.TheVariants as stage
use Rattle.seg_core.specs.Core.{Core, live}
use Rattle.seg_core.specs.Steps as core
use Rattle.seg_core.specs.Shape.{name_of, list_of}
use Rattle.seg_core.proofs.Maps.{map_inside}
use Rattle.seg_core.proofs.Refers.{refs_few, live_not_free}
use Rattle.seg_core.proofs.cells.Cells.share.Goals as goal

pub overflow_add-count : goal.overflow_add-count
overflow_add-count c = let l = c.live.ensures.some c.in-Some.parent c.in-Some.count c.in-Some.is in
    let n = (c.requires (suc c.args.segment) (live l.0 (name_of c.in-Some.parent) c.in-Some.count)
    (omega arith) l.1).0 in
    let f = refs_few c.args.self.now.segments.items c.args.self.now.holders.items
    c.args.self.now.locations (suc c.args.segment) in let long = c.args.self.now.long in
    let long0 = long.0 in let long1 = long.1 in omega arith

pub turn-requires : goal.turn-requires
turn-requires c = let l = c.live.ensures.some c.in-Some.parent c.in-Some.count c.in-Some.is in
    (stage.Live c.in-Some.parent c.in-Some.count, l.0, l.1)

pub refer-requires : goal.refer-requires
refer-requires c = let h = map_inside list_of c.args.self.now.holders.items c.args.holder _
    c.if-not-refers.ensures in let long = c.args.self.now.long in let long1 = long.1 in omega arith

pub returns-in-Some-clause-done : goal.returns-in-Some-clause-done
returns-in-Some-clause-done c = λ done. let l = c.live.ensures.some c.in-Some.parent c.in-Some.count
    c.in-Some.is in (
      l.0,
      name_of c.in-Some.parent,
      c.in-Some.count,
      omega arith,
      l.1,
      c.if-not-refers.ensures,
      c.refer.ensures
          ∙ ap (λ (k : Core). core.list_to k c.args.holder (suc c.args.segment ∷ suc c.args.segment
          ∷ [])) (c.turn.ensures.words (stage.Live c.in-Some.parent c.in-Some.count) l.0
          (live_not_free c.in-Some.parent c.in-Some.count) l.1),
    )

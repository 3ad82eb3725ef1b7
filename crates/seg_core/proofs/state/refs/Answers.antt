-- Answers of refs: all references are counted, so a live segment has its count of them and any other none.
use Rattle.std.proofs.Common.{suc, sym, subst, arith}
use Rattle.seg_core.specs.declared.segment.Stage.{Stage}
use Rattle.seg_core.specs.Core.{At}
use Rattle.seg_core.specs.Shape.{shape, seg_of}
use Rattle.seg_core.specs.Cells.{core_of}
use Rattle.seg_core.proofs.Maps.{map_at}
use Rattle.seg_core.proofs.Holds.{some_at}
use Rattle.seg_core.proofs.state.refs.Goals as goal

pub returns-in-Some-Live : goal.returns-in-Some-Live
returns-in-Some-Live c = let t = c.stage.ensures.some c.in-Some-Live.field-0 c.in-Some-Live.is in
    let at = subst (λ (s : Stage). At (core_of c.args.state.now.cells) (suc c.args.segment)
    (shape s t.0)) c.in-Some-Live.field-0-is t.1 in
    (c.args.state.now.counted.0 (suc c.args.segment) _ _ _ (omega arith) at).0

pub returns-in-Some-Free : goal.returns-in-Some-Free
returns-in-Some-Free c = let t = c.stage.ensures.some c.in-Some-Free.field-0 c.in-Some-Free.is in
    let at = subst (λ (s : Stage). At (core_of c.args.state.now.cells) (suc c.args.segment)
    (shape s t.0)) c.in-Some-Free.field-0-is t.1 in
    sym (c.args.state.now.counted.1 (suc c.args.segment) (omega arith) at)

pub returns-in-Some-Building : goal.returns-in-Some-Building
returns-in-Some-Building c = let t = c.stage.ensures.some c.in-Some-Building.field-0
    c.in-Some-Building.is in
    let at = subst (λ (s : Stage). At (core_of c.args.state.now.cells) (suc c.args.segment)
    (shape s t.0)) c.in-Some-Building.field-0-is t.1 in
    sym (c.args.state.now.counted.2 (suc c.args.segment) _ _ (omega arith) at)

pub returns-in-None : goal.returns-in-None
returns-in-None c = let g = some_at c.args.state.now.cells.segments.items c.args.segment
    (let h = c.requires in omega arith) in
    absurd (c.stage.ensures.none c.in-None.is (seg_of g.0)
    (map_at seg_of c.args.state.now.cells.segments.items c.args.segment g.0 g.1))

-- Answers of note_layouts: the layout that was noted joins those before it, and at the end those before are all.
use Rattle.std.proofs.Common.{All, arith, subst}
use Rattle.std.proofs.lemmas.List.{take_all}
use Rattle.std.proofs.lemmas.List.Elements.{All-more}
use Rattle.code_file.specs.Laws.{IsItem}
use Rattle.code_file.proofs.widths.note_layouts.Goals as goal

pub loop-layout-preserved : goal.loop-layout-preserved
loop-layout-preserved c =
    All-more (All IsItem) c.args.layouts.now c.loop-layout.layout-index c.layout-item.result c.loop-layout-test.true
    c.loop-layout.invariant
    (subst (All IsItem) c.layout-item.is (subst (All IsItem) c.as_slice.ensures c.note_layout.ensures))

pub returns : goal.returns
returns c =
    let t = c.loop-layout-test.false in
    subst (All (All IsItem)) (take_all c.loop-layout.layout-index c.args.layouts.now (omega (arith, t)))
    c.loop-layout.invariant

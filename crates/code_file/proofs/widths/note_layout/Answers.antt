-- Answers of note_layout: the item that was noted joins those before it, and at the end those before are all.
use Rattle.std.proofs.Common.{All, arith, subst}
use Rattle.std.proofs.lemmas.List.{take_all}
use Rattle.std.proofs.lemmas.List.Elements.{All-more}
use Rattle.code_file.specs.Laws.{IsItem}
use Rattle.code_file.proofs.widths.note_layout.Goals as goal

pub loop-item-preserved : goal.loop-item-preserved
loop-item-preserved c =
    All-more IsItem c.args.items.now c.loop-item.item-index _ c.loop-item-test.true c.loop-item.invariant
    c.note_item.ensures

pub returns : goal.returns
returns c =
    let t = c.loop-item-test.false in
    subst (All IsItem) (take_all c.loop-item.item-index c.args.items.now (omega (arith, t))) c.loop-item.invariant

-- Answers of values_of: the width of the next item is the first of those left, and none is more than one word.
use Rattle.std.proofs.Common.{arith}
use Rattle.leg_run.proofs.Printing.{one_width}
use Rattle.leg_run.proofs.prints.values_of.Goals as goal

pub loop-at-preserved : goal.loop-at-preserved
loop-at-preserved c =
    let inv = c.loop-at.invariant in
    let a = inv.count in let b = inv.few in
    let w = c.width-count.ensures.value in let few = c.width-count.ensures.few in
    let o = one_width c.args.items.now c.loop-at.at c.item_at.result c.item_at.ensures in
    record { count = omega (arith, a, w, o); few = omega (arith, b, few) }

-- Loops of copied_items: the first copy so far, with the walk of the items left, is that of the walk of all items.
use Rattle.std.proofs.Common.{◌≡◌, drop, map, None}
use Rattle.rev_syntax.specs.View.{print_item}
use Rattle.affine_check.specs.Walk as rule
use Rattle.affine_check.proofs.copies.copied_items.Given as goal

abbrev pub invariant-loop-item : goal.invariant-loop-item
invariant-loop-item l =
    rule.copied_items l.locals l.found (map print_item (drop l.item-index l.items))
    ≡ rule.copied_items l.locals None (map print_item l.items)

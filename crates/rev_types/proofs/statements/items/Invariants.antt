-- Loops of items: the fault so far, with those of the items left, is that of all items.
use Rattle.std.proofs.Common.{◌≡◌, drop, map, None}
use Rattle.rev_syntax.specs.View.{print_item}
use Rattle.rev_report.specs.declared.limit.Limit.TheVariants as limits
use Rattle.rev_report.specs.Limits.{first_past}
use Rattle.rev_kinds.specs.Walk.{names_of}
use Rattle.rev_types.specs.Walk as rule
use Rattle.rev_types.proofs.statements.items.Given as goal

abbrev pub invariant-loop-it : goal.invariant-loop-it
invariant-loop-it l =
    rule.items_by (names_of l.checker) l.locals l.left l.found (map print_item (drop l.it-index l.all))
    ≡ rule.items_by (names_of l.checker) l.locals (first_past limits.Items) None (map print_item l.all)

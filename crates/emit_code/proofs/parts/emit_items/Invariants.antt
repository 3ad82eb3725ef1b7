-- Loops of emit_items: the code so far, with that of the items left, is that of all, and there is room for it.
use Rattle.std.proofs.Common.{◌≡◌, ◌<◌, ◌^◌, ◌+◌, ◌++◌, drop, map, length}
use Rattle.rev_syntax.specs.View.{print_item}
use Rattle.code_generation.specs.Sizes.{items_size}
use Rattle.code_generation.specs.Statements.{items_code}
use Rattle.emit_code.specs.Naming.{numbers_of}
use Rattle.emit_code.proofs.parts.emit_items.Given as goal

abbrev pub invariant-loop-item : goal.invariant-loop-item
invariant-loop-item l = record {
  code : l.code.items
      ++ items_code (numbers_of l.known.numbers.now) l.known.scope.now (map print_item (drop l.item-index l.items))
      (length l.code.items)
      ≡ l.initial.code.items
      ++ items_code (numbers_of l.known.numbers.now) l.known.scope.now (map print_item l.items)
      (length l.initial.code.items);
  room : length l.code.items + items_size (map print_item (drop l.item-index l.items)) < 2 ^ 32;
}

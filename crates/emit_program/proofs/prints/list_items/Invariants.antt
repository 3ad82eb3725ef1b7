-- Loops of list_items: the texts and layout so far, with those of the items left, are those of the whole print.
use Rattle.std.proofs.Common.{◌≡◌, ◌<◌, ◌^◌, ◌+◌, ◌++◌, drop, map, length}
use Rattle.rev_syntax.specs.View.{print_item}
use Rattle.rev_kinds.specs.Walk.{names_of}
use Rattle.code_generation.specs.Prints.{items_texts, layout_of}
use Rattle.emit_program.proofs.prints.list_items.Given as goal

abbrev pub invariant-loop-item : goal.invariant-loop-item
invariant-loop-item l = record {
  texts : l.texts.items ++ items_texts (map print_item (drop l.item-index l.items))
      ≡ l.initial.texts.items ++ items_texts (map print_item l.items);
  layout : l.layout.items
      ++ layout_of (names_of l.checker) l.locals (length l.texts.items) (map print_item (drop l.item-index l.items))
      ≡ layout_of (names_of l.checker) l.locals (length l.initial.texts.items) (map print_item l.items);
  room : length l.texts.items + length (items_texts (map print_item (drop l.item-index l.items))) < 2 ^ 32;
}

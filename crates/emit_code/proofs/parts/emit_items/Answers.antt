-- Answers of emit_items: the item's code comes first in that of the items left, and its size makes room for them.
use Rattle.std.proofs.Common.{◌≡◌, ◌∙◌, ◌+◌, ◌++◌, ◌∷◌, drop, map, ap, sym, arith, length}
use Rattle.std.proofs.lemmas.List.{drop_more}
use Rattle.rev_syntax.specs.View.{print_item}
use Rattle.code_generation.specs.Sizes.{items_size}
use Rattle.code_generation.specs.Statements.{items_code}
use Rattle.emit_code.specs.Naming.{numbers_of}
use Rattle.emit_code.proofs.Items.{items_grow, item_long, item_behind}
use Rattle.emit_code.proofs.parts.emit_items.Goals as goal

pub loop-item-preserved : goal.loop-item-preserved
loop-item-preserved c =
    let n = numbers_of c.args.known.now.numbers.now in let s = c.args.known.now.scope.now in
    let x = c.item-item.result in let at = c.loop-item.item-index in
    let xs = map print_item (drop (at + 1) c.args.items.now) in
    let code = c.loop-item.code.items in let written = c.emit_item.new.code.items in
    let here : drop at c.args.items.now ≡ x ∷ drop (at + 1) c.args.items.now =
    drop_more c.args.items.now at x (omega arith) ∙ ap (λ y. y ∷ drop (at + 1) c.args.items.now) (sym c.item-item.is) in
    let behind = item_behind n s (print_item x) xs code written c.in_ok-emit_item.ensures in
    let same = ap (λ l. code ++ items_code n s (map print_item l) (length code)) here in
    let size = ap (λ l. items_size (map print_item l)) here in
    let grown = items_grow (print_item x) xs in
    let long = item_long n s (print_item x) code written c.in_ok-emit_item.ensures in
    let room = c.loop-item.invariant.room in
    record {
      code = behind ∙ sym same ∙ c.loop-item.invariant.code;
      room = omega (arith, size, grown, long, room);
    }

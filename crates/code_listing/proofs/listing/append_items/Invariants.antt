-- Loops of append_items: the output is what it was, followed by the texts of the items so far.
use Rattle.std.proofs.Common.{◌≡◌, ◌++◌, take}
use Rattle.std.specs.List.{flat_map}
use Rattle.code_listing.specs.Listing.{item_text}
use Rattle.code_listing.proofs.listing.append_items.Given as goal

abbrev pub invariant-loop-item : goal.invariant-loop-item
invariant-loop-item l = l.out.items ≡ l.fn.out.items ++ flat_map item_text (take l.item-index l.items)

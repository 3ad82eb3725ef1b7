-- Loops of is_layout: whether all items are well formed hangs on the items left alone.
use Rattle.std.proofs.Common.{◌≡◌, drop}
use Rattle.std.specs.List.{list_all}
use Rattle.code_rules.specs.Tables as tables
use Rattle.code_rules.proofs.tables.is_layout.Given as goal

abbrev pub invariant-loop-item : goal.invariant-loop-item
invariant-loop-item l =
    list_all (tables.is_item l.texts) l.items ≡ list_all (tables.is_item l.texts) (drop l.item-index l.items)

-- Loops of all_layouts: whether all items of all layouts are well formed hangs on the layouts left alone.
use Rattle.std.proofs.Common.{◌≡◌, drop}
use Rattle.std.specs.List.{list_all}
use Rattle.code_rules.specs.Tables as tables
use Rattle.code_rules.proofs.tables.all_layouts.Given as goal

abbrev pub invariant-loop-items : goal.invariant-loop-items
invariant-loop-items l =
    list_all (list_all (tables.is_item l.texts)) l.layouts
    ≡ list_all (list_all (tables.is_item l.texts)) (drop l.items-index l.layouts)

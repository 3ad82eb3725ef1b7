-- Loops of all_small_layouts: whether all layouts are small hangs on the layouts left alone.
use Rattle.std.proofs.Common.{◌≡◌, drop}
use Rattle.std.specs.List.{list_all}
use Rattle.code_rules.specs.Tables as tables
use Rattle.code_rules.proofs.tables.all_small_layouts.Given as goal

abbrev pub invariant-loop-items : goal.invariant-loop-items
invariant-loop-items l =
    list_all tables.is_small_layout l.layouts ≡ list_all tables.is_small_layout (drop l.items-index l.layouts)

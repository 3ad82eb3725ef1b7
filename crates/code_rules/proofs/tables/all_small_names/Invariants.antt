-- Loops of all_small_names: whether all names are small hangs on the variables left alone.
use Rattle.std.proofs.Common.{◌≡◌, drop}
use Rattle.std.specs.List.{list_all}
use Rattle.code_rules.specs.Tables as tables
use Rattle.code_rules.proofs.tables.all_small_names.Given as goal

abbrev pub invariant-loop-var : goal.invariant-loop-var
invariant-loop-var l = list_all tables.has_small_name l.vars ≡ list_all tables.has_small_name (drop l.var-index l.vars)

-- Loops of all_vars: whether all variables fit the code hangs on the variables left alone.
use Rattle.std.proofs.Common.{◌≡◌, drop}
use Rattle.std.specs.List.{list_all}
use Rattle.code_rules.specs.Tables as tables
use Rattle.code_rules.proofs.tables.all_vars.Given as goal

abbrev pub invariant-loop-var : goal.invariant-loop-var
invariant-loop-var l =
    list_all (tables.is_var l.code) l.code.vars ≡ list_all (tables.is_var l.code) (drop l.var-index l.code.vars)

-- Loops of shown_values: the values so far, with those of the variables left, are the values of all variables.
use Rattle.std.proofs.Common.{◌≡◌, ◌++◌, drop}
use Rattle.rev_syntax.specs.View.{program as whole}
use Rattle.typed_programs.specs.Layout.{variables}
use Rattle.revision_calculus.specs.Outcome.{show_all}
use Rattle.revision_data.proofs.shown.shown_values.Given as goal

abbrev pub invariant-loop-i : goal.invariant-loop-i
invariant-loop-i l =
    l.shown.items ++ show_all (drop l.i (variables (whole l.typed.expanded.program))) l.locations
    ≡ show_all (variables (whole l.typed.expanded.program)) l.locations

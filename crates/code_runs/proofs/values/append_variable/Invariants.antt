-- Loops of append_variable: what is shown so far, with the cells left, is what was there and all cells.
use Rattle.std.proofs.Common.{◌≡◌, ◌++◌, List, drop}
use Rattle.rev_num.specs.Path.{Path}
use Rattle.code_world.specs.Endings.{Names}
use Rattle.code_runs.specs.Births.{path_in}
use Rattle.code_runs.specs.Words.{cells_shown}
use Rattle.code_runs.proofs.values.append_variable.Given as goal

-- the later cells are still to come
abbrev pub invariant-loop-cell : goal.invariant-loop-cell
invariant-loop-cell l =
    (paths : List Path) → Names l.births paths
    → l.shown.items ++ cells_shown (path_in paths) l.variable l.cell (drop l.cell l.words)
    ≡ l.initial.shown.items ++ cells_shown (path_in paths) l.variable 0 l.words

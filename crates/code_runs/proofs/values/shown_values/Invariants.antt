-- Loops of shown_values: the words left are those of the variables left, and what is shown so far with them is all.
use Rattle.std.proofs.Common.{◌≡◌, ◌++◌, List, length, drop}
use Rattle.rev_num.specs.Path.{Path}
use Rattle.block_run.specs.Area.{count}
use Rattle.code_world.specs.Endings.{Names}
use Rattle.code_runs.specs.Births.{path_in}
use Rattle.code_runs.specs.Words.{variables_shown}
use Rattle.code_runs.proofs.values.shown_values.Given as goal

-- the later variables, whose words are left, are still to come
abbrev pub invariant-loop-variable : goal.invariant-loop-variable
invariant-loop-variable l =
    (length l.rest ≡ count (drop l.variable-index l.variables))
    × ((paths : List Path) → Names l.births paths
    → l.shown.items ++ variables_shown (path_in paths) (drop l.variable-index l.variables) l.rest
    ≡ variables_shown (path_in paths) l.variables l.words)

-- Loops of path_of: the path of the revision reached, with the places gathered in reverse, is the path asked for.
use Rattle.std.proofs.Common.{◌≡◌, ◌++◌, List, reverse}
use Rattle.rev_num.specs.Path.{Path}
use Rattle.code_world.specs.Endings.{Names}
use Rattle.code_runs.specs.Births.{path_in}
use Rattle.code_runs.proofs.paths.path_of.Given as goal

-- the path of the revision that has been reached, and the places behind it
abbrev pub invariant-loop-birth : goal.invariant-loop-birth
invariant-loop-birth l =
    (paths : List Path) → Names l.births paths
    → path_in paths l.at ++ reverse l.places.items ≡ path_in paths l.fn.number

abbrev pub decreases-loop-birth : goal.decreases-loop-birth
decreases-loop-birth l = l.at

-- Loops of is_path: the path of the revision reached is what is left of the numbers, where all was so at first.
use Rattle.std.proofs.Common.{◌≡◌, ◌≤◌, List, length, take}
use Rattle.rev_num.specs.Path.{Path, same}
use Rattle.code_world.specs.Endings.{Names}
use Rattle.code_runs.specs.Births.{path_in}
use Rattle.code_runs.proofs.paths.is_path.Given as goal

-- the path of the revision that has been reached is to be what is left of the numbers
abbrev pub invariant-loop-birth : goal.invariant-loop-birth
invariant-loop-birth l = record {
  short : l.count ≤ length l.places;
  same : (paths : List Path) → Names l.births paths
      → same (path_in paths l.at) (take l.count l.places) ≡ same (path_in paths l.fn.number) l.places;
}

abbrev pub decreases-loop-birth : goal.decreases-loop-birth
decreases-loop-birth l = l.at

-- `locations_read`: one location after another.
use Rattle.std.proofs.Common.{List}
use Rattle.rev_num.specs.Path.{Path}
use Rattle.code_world.specs.Endings.{Names}
use Rattle.version_map.specs.Deltas.{at}
use Rattle.code_runs.specs.Births.{path_in}
use Rattle.rev_record.specs.Words.{HasRead}
use Rattle.rev_record.proofs.reads.locations_read.Given as goal

abbrev pub invariant-loop-location : goal.invariant-loop-location
invariant-loop-location l =
    (paths : List Path) → Names l.births paths
    → HasRead (path_in paths) l.variables (at l.noted) l.base l.location l.read.items

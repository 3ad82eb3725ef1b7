-- `kept_writes`: one write after another.
use Rattle.std.proofs.Common.{◌≡◌, ◌++◌, List, drop}
use Rattle.rev_num.specs.Path.{Path}
use Rattle.code_world.specs.Endings.{Names}
use Rattle.code_runs.specs.Births.{path_in}
use Rattle.rev_record.specs.Words.{written_of}
use Rattle.rev_record.proofs.values.kept_writes.Given as goal

-- the later ones are still to come
abbrev pub invariant-loop-one : goal.invariant-loop-one
invariant-loop-one l =
    (paths : List Path) → Names l.births paths
    → l.all.items ++ written_of (path_in paths) l.variables (drop l.one-index l.written)
    ≡ written_of (path_in paths) l.variables l.written

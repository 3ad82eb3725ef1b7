-- `args_values`: one argument after another.
use Rattle.std.proofs.Common.{◌≡◌, ◌++◌, List, drop}
use Rattle.rev_num.specs.Path.{Path}
use Rattle.code_world.specs.Endings.{Names}
use Rattle.code_runs.specs.Births.{path_in}
use Rattle.rev_record.specs.Words.{args_of}
use Rattle.rev_record.proofs.values.args_values.Given as goal

-- the later ones are still to come
abbrev pub invariant-loop-at : goal.invariant-loop-at
invariant-loop-at l =
    (paths : List Path) → Names l.births paths
    → l.values.items ++ args_of (path_in paths) (drop l.at l.kinds) (drop l.at l.words)
    ≡ args_of (path_in paths) l.kinds l.words

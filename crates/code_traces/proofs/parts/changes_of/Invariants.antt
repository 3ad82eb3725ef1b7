-- Loops of changes_of: the changes so far, with those of the locations left, are the changes of all.
use Rattle.std.proofs.Common.{◌≡◌, ◌++◌, List, drop, map}
use Rattle.rev_num.specs.Path.{Path}
use Rattle.code_world.specs.Endings.{Names}
use Rattle.rev_vm.specs.States.{entry_as}
use Rattle.code_traces.specs.Parts.{change_of, path_in}
use Rattle.code_traces.proofs.parts.changes_of.Given as goal

-- the later ones are still to come
abbrev pub invariant-loop-one : goal.invariant-loop-one
invariant-loop-one l =
    (paths : List Path) → Names l.births paths
    → l.changes.items ++ map (change_of (path_in paths) l.places) (map (entry_as l.kinds) (drop l.one-index l.written))
    ≡ map (change_of (path_in paths) l.places) (map (entry_as l.kinds) l.written)

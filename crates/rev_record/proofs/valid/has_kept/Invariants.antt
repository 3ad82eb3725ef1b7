-- `has_kept`: one value after another.
use Rattle.std.proofs.Common.{◌≡◌, ◌<◌, ℕ, List, Some}
use Rattle.std.specs.Prelude.{slice_get}
use Rattle.rev_num.specs.Path.{Path}
use Rattle.code_world.specs.Endings.{Names}
use Rattle.code_runs.specs.Births.{path_in}
use Rattle.rev_record.specs.declared.entry.KeptValue.{KeptValue}
use Rattle.rev_record.specs.Words.{IsHere}
use Rattle.rev_record.proofs.valid.has_kept.Given as goal

-- those before are there
abbrev pub invariant-loop-one : goal.invariant-loop-one
invariant-loop-one l =
    (paths : List Path) → Names l.births paths
    → (i : ℕ) (x : KeptValue) → i < l.one-index → slice_get l.read i ≡ Some x
    → IsHere (path_in paths) l.variables l.base x

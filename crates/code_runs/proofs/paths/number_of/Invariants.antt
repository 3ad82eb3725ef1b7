-- Loops of number_of: no revision of a lesser number has the path.
use Rattle.std.proofs.Common.{◌≡◌, ◌<◌, ℕ, List, Some}
use Rattle.rev_num.specs.Path.{Path}
use Rattle.revision_machine.specs.Numbered.{at_number}
use Rattle.code_world.specs.Endings.{Names}
use Rattle.code_runs.proofs.paths.number_of.Given as goal

abbrev pub invariant-loop-number : goal.invariant-loop-number
invariant-loop-number l =
    (paths : List Path) → Names l.births paths → (n : ℕ) → n < l.number → at_number paths n ≡ Some l.path → ⊥

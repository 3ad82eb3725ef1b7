-- The words of all locations, one after another, and what is shown of them.
--   AreInside          writes of locations that there are
--   written_over       the words with those that were written in their places
--   cell_shown         of a variable's cell
--   cells_shown        of a variable's cells from this one on
--   variables_shown    of all variables
use Rattle.std.specs.Prelude.{ℕ, suc, ◌≡◌, ◌<◌, if◌then◌else◌, List, [], ◌∷◌, ◌++◌, length, take, drop, Some, None, slice_get, slice_set}
use Rattle.rev_num.specs.Path.{Path}
use Rattle.rev_num.specs.declared.outcome.Shown.{Shown}
use Rattle.rev_code.specs.declared.code.CodeVar.{CodeVar}
use Rattle.version_map.specs.declared.end.Written.{Written}
use Rattle.code_machine.specs.Outcome.{value_of}
use Rattle.leg_run.specs.Standing.{word_as}

abbrev pub AreInside : List ℕ → List Written → Type 0
AreInside ws written =
    (n : ℕ) (w : Written) → slice_get written n ≡ Some w → w.location < length ws

abbrev pub written_over : List ℕ → List Written → List ℕ
written_over ws [] = ws
written_over ws (w ∷ written) = written_over (slice_set ws w.location w.value) written

module _ (path : ℕ → Path) where
  abbrev pub cell_shown : CodeVar → ℕ → ℕ → Shown
  cell_shown x cell w = record {
    name = x.name;
    cell = if x.array then Some cell else None;
    value = value_of path (word_as x.kind w);
  }

  abbrev pub cells_shown : CodeVar → ℕ → List ℕ → List Shown
  cells_shown x cell [] = []
  cells_shown x cell (w ∷ ws) = cell_shown x cell w ∷ cells_shown x (suc cell) ws

  abbrev pub variables_shown : List CodeVar → List ℕ → List Shown
  variables_shown [] ws = []
  variables_shown (x ∷ xs) ws =
      cells_shown x 0 (take x.cells ws) ++ variables_shown xs (drop x.cells ws)

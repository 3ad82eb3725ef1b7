-- Shapes that are kept by number.
use Rattle.std.specs.Prelude.{◌≡◌, ℕ, ◌<◌, ◌≤◌, List, [], ◌∷◌, length, Option, Some, None, slice_get}
use Rattle.rev_num.specs.declared.value.ValueKind.{ValueKind}
use Rattle.code_rules.specs.Shapes.{Shape}

-- the shape of that number, and the empty one where there is none
abbrev pub shape_at : List Shape → ℕ → Shape
shape_at shapes id = elim (slice_get shapes id) [ None ↦ [] | Some s ↦ s ]

abbrev pub first : Shape → Option ValueKind
first [] = None
first (x ∷ s) = Some x

abbrev pub rest : Shape → Shape
rest [] = []
rest (x ∷ s) = s

-- the shapes grew: each keeps its number
pub record Extends (old new : List Shape) : Type 0 where
  pub kept : (id : ℕ) → id < length old → slice_get new id ≡ slice_get old id
  pub longer : length old ≤ length new

-- the shape with one kind more has a number
pub record IsPushed (old : List Shape) (id : ℕ) (kind : ValueKind) (new : List Shape) (to : ℕ) : Type 0 where
  pub extends : Extends old new
  pub within : to < length new
  pub there : shape_at new to ≡ kind ∷ shape_at old id

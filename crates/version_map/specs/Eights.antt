-- Merges of locations that follow each other.
--   merged_row     the new words of as many locations from this one on as there are words, or none where
--                  one of their merges faults
--   merged_eight   the same of eight locations that are merged at once, and none where they are not
use Rattle.std.specs.Prelude.{ℕ, ◌+◌, Bool, true, false, List, [], ◌∷◌, Option, Some, None, Result, Ok, Err}
use Rattle.rev_num.specs.declared.value.NumFault.{NumFault}
use Rattle.version_map.specs.Composing.{Merges}

abbrev pub before_word : ℕ → Option (List ℕ) → Option (List ℕ)
before_word x None = None
before_word x (Some xs) = Some (x ∷ xs)

abbrev pub and_words : Result ℕ NumFault → Option (List ℕ) → Option (List ℕ)
and_words (Ok x) later = before_word x later
and_words (Err f) later = None

abbrev pub merged_row : Merges ℕ → (first : ℕ) → (mains joins roots : List ℕ) → Option (List ℕ)
merged_row m l (x ∷ xs) (y ∷ ys) (z ∷ zs) = and_words (m l x y z) (merged_row m (l + 1) xs ys zs)
merged_row m l [] ys zs = Some []
merged_row m l (x ∷ xs) [] zs = Some []
merged_row m l (x ∷ xs) (y ∷ ys) [] = Some []

abbrev pub merged_eight : Bool → Merges ℕ → (first : ℕ) → (mains joins roots : List ℕ) → Option (List ℕ)
merged_eight true m first mains joins roots = merged_row m first mains joins roots
merged_eight false m first mains joins roots = None

-- What a delta has.
--   locations d   how many locations it is for
--   at d l        the value of the location l, or none
--   mask_of d     its mask, 64 locations to a row
--   IsEmpty d     it has no value
--   HasRow d row  each of the 64 locations of a row of the mask has a value
--   AreEmpty d from to       none of the locations from this one on and before that has a value
--   IsNext d from l          l is the least location from this one on that has a value
--   AreEmptyRows d from to   the rows of the mask from this one on and before that are 0
--   IsNextRow d from row     row is the least row of the mask from this one on that is not 0
use Rattle.std.specs.Prelude.{◌≡◌, ◌≢◌, ℕ, ◌+◌, ◌*◌, ◌<◌, ◌≤◌, List, drop, slice_index, Option, None}
use Rattle.version_map.specs.Masks.{bit_in, chosen, rows}
use Rattle.version_map.specs.declared.delta.Delta.{Delta}

abbrev pub locations : Delta → ℕ
locations d = d.count

abbrev pub mask_of : Delta → List ℕ
mask_of d = drop d.count d.cells.items

abbrev pub at : Delta → ℕ → Option ℕ
at d l = chosen (bit_in (mask_of d) l) (slice_index d.cells.items l)

abbrev pub IsEmpty : Delta → Type 0
IsEmpty d = (l : ℕ) → l < locations d → at d l ≡ None

abbrev pub HasRow : Delta → (row : ℕ) → Type 0
HasRow d row = (k : ℕ) → k < 64 → at d (64 * row + k) ≢ None

abbrev pub AreEmpty : Delta → (from to : ℕ) → Type 0
AreEmpty d from to = (l : ℕ) → from ≤ l → l < to → at d l ≡ None

abbrev pub IsNext : Delta → (from l : ℕ) → Type 0
IsNext d from l = (from ≤ l) × (l < locations d) × (at d l ≢ None) × AreEmpty d from l

abbrev pub AreEmptyRows : Delta → (from to : ℕ) → Type 0
AreEmptyRows d from to = (row : ℕ) → from ≤ row → row < to → slice_index (mask_of d) row ≡ 0

abbrev pub IsNextRow : Delta → (from row : ℕ) → Type 0
IsNextRow d from row = (from ≤ row) × (row < rows (locations d)) × (slice_index (mask_of d) row ≢ 0)
    × AreEmptyRows d from row

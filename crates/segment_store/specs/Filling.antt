-- Rows of a segment.
--   Filling   the parent, the first k mask words and the values of the first l locations are laid down
--   IsWhole   a row of 64 locations that all have a value by the mask word `bits`, and none in the delta
use Rattle.std.specs.Prelude.{◌≡◌, ℕ, ◌+◌, ◌-◌, ◌*◌, ◌^◌, ◌<◌, ◌≤◌, List, slice_index, None, Some}
use mathlib.Core.Option as m
use Rattle.version_map.specs.declared.delta.Delta.{Delta}
use Rattle.version_map.specs.Deltas.{at, locations, mask_of}
use Rattle.segment_store.specs.Entry.{Put}
use Rattle.segment_store.specs.Store.{look}

pub record Filling (segment parent masks : ℕ) (d : Delta) (k l : ℕ) (made : List Put) : Type 0 where
  pub parent_is : look made (segment + 1) ≡ m.some parent
  pub mask_is : (j : ℕ) → j < k → look made (segment + (2 + j)) ≡ m.some (slice_index (mask_of d) j)
  pub value_is : (j w : ℕ) → j < l → at d j ≡ Some w
      → look made (segment + (2 + masks + j)) ≡ m.some w
  pub none_is : (j : ℕ) → (j < l → at d j ≡ None) → look made (segment + (2 + masks + j)) ≡ m.none

abbrev pub IsWhole : (bits row : ℕ) → Delta → Type 0
IsWhole bits row d = (bits ≡ 2 ^ 64 - 1) × (64 * row + 64 ≤ locations d) × (slice_index (mask_of d) row ≡ 0)

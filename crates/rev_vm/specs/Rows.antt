-- Rows of 64 locations, as the mask of a delta has them.
--   IsRow      from this place on, the next 64 written locations are those of this row
--   WroteRow   the locations of a row have the words from this place on, all others have the words that they had, and
--              the words at the fork, known for the whole row, stay
use Rattle.std.specs.Prelude.{◌≡◌, ◌≢◌, ℕ, ◌+◌, ◌*◌, ◌<◌, ◌≤◌, List, length, slice_get, slice_index, Option, None, Some}
use Rattle.version_map.specs.declared.end.Written.{Written}

pub record IsRow (written : List Written) (at row : ℕ) : Type 0 where
  pub within : at + 64 ≤ length written
  pub location : (k : ℕ) (w : Written) → k < 64 → slice_get written (at + k) ≡ Some w → w.location ≡ 64 * row + k

pub record WroteRow (size row at : ℕ) (values : List ℕ) (seen seen' : ℕ → ℕ) (root root' : ℕ → Option ℕ)
    : Type 0 where
  pub within : 64 * row + 64 ≤ size
  pub here : (k : ℕ) → k < 64 → seen' (64 * row + k) ≡ slice_index values (at + k)
  pub before : (l : ℕ) → l < 64 * row → seen' l ≡ seen l
  pub after : (l : ℕ) → 64 * row + 64 ≤ l → seen' l ≡ seen l
  pub known : (k : ℕ) → k < 64 → root (64 * row + k) ≢ None
  pub roots : (l : ℕ) → root' l ≡ root l

-- Rows of mask words, which have one bit for each location.
--   rows n            how many mask words there are for n locations
--   bit_in mask l     the bit of the location l
--   chosen bit word   the word where the bit is 1, and none where it is not
--   IsSummary s mask  of the first 64 rows of the mask, a bit of s is 0 exactly where that row is 0
--   summary_prop      in one way at most
use Rattle.std.specs.Prelude.{◌≡◌, ℕ, ◌+◌, ◌/◌, ◌%◌, ◌<◌, ◌↔◌, List, slice_index, cond, ◌==◌, Option, None, Some}
use Rattle.std.specs.Coded.{Coded-set, coded_ℕ}
use Rattle.std.specs.Int.{bit_at}

abbrev pub rows : ℕ → ℕ
rows n = (n + 63) / 64

abbrev pub bit_in : List ℕ → ℕ → ℕ
bit_in mask l = bit_at (slice_index mask (l / 64)) (l % 64)

abbrev pub chosen : ℕ → ℕ → Option ℕ
chosen bit word = cond (bit == 1) (Some word) None

unfoldable pub IsSummary : (summary : ℕ) → (mask : List ℕ) → Type 0
IsSummary summary mask = (row : ℕ) → row < 64 → (bit_at summary row ≡ 0) ↔ (slice_index mask row ≡ 0)

pub summary_prop : (summary : ℕ) (mask : List ℕ) → IsProp (IsSummary summary mask)
unfolding IsSummary
summary_prop summary mask = λ x y i row low. (
  λ none. Coded-set coded_ℕ (slice_index mask row) 0 ((x row low).0 none) ((y row low).0 none) i,
  λ none. Coded-set coded_ℕ (bit_at summary row) 0 ((x row low).1 none) ((y row low).1 none) i,
)

-- Which kernel merges which location.
--   choice_at    the place of the kernel that was chosen for a location
--   chosen_at    its definition
--   AreWithin    each choice is a place of the kernels
--   have         each of these is this choice
--   row_choice   the one choice of eight locations, from this one on
--   has_row      whether they have one, of a kernel with a row
--   IsRowFor     this definition was chosen for each of them
--   AreLike      so many locations from this one on have what the first of them has, a choice or none
--   AreLevel     of each row of 64 locations, so many from its first on are alike as are told
use Rattle.std.specs.Prelude.{◌≡◌, ◌<◌, ◌≤◌, ◌+◌, ◌*◌, ℕ, Bool, true, false, ◌&&◌, nat_eq, nat_lt, if◌then◌else◌, List, [], ◌∷◌, take, drop, length, Option, Some, None, slice_get, option_and_then}
use Rattle.rev_syntax.specs.Trees.{Expression}

abbrev pub the_choice : Option (Option ℕ) → Option ℕ
the_choice (Some c) = c
the_choice None = None

abbrev pub choice_at : List (Option ℕ) → ℕ → Option ℕ
choice_at choices location = the_choice (slice_get choices location)

abbrev pub chosen_at : List (Option ℕ) → List Expression → ℕ → Option Expression
chosen_at choices kernels location = option_and_then (slice_get kernels) (choice_at choices location)

abbrev pub AreWithin : List (Option ℕ) → List Expression → Type 0
AreWithin choices kernels =
    (location n : ℕ) → choice_at choices location ≡ Some n → n < length kernels

-- ---- rows of eight

abbrev pub is_choice : ℕ → Option ℕ → Bool
is_choice n (Some m) = nat_eq m n
is_choice n None = false

abbrev pub have : ℕ → List (Option ℕ) → Bool
have n [] = true
have n (c ∷ cs) = is_choice n c && have n cs

-- the first of these choices, where all have it
abbrev pub if_all : Option ℕ → List (Option ℕ) → Option ℕ
if_all (Some n) cs = if have n cs then Some n else None
if_all None cs = None

unfoldable pub row_choice : List (Option ℕ) → (first : ℕ) → Option ℕ
row_choice choices first =
    if nat_lt (length choices) (first + 8)
    then None
    else if_all (choice_at choices first) (take 8 (drop first choices))

abbrev pub is_true : Option Bool → Bool
is_true (Some b) = b
is_true None = false

-- of each kernel, whether it has a row
abbrev pub has_row : List (Option ℕ) → List Bool → (first : ℕ) → Bool
has_row choices rows first = is_true (option_and_then (slice_get rows) (row_choice choices first))

abbrev pub IsRowFor : List (Option ℕ) → List Expression → (first : ℕ) → Expression → Type 0
IsRowFor choices kernels first e = (k : ℕ) → k < 8 → chosen_at choices kernels (first + k) ≡ Some e

-- ---- rows of 64

abbrev pub AreLike : List (Option ℕ) → (first n : ℕ) → Type 0
AreLike choices first n =
    (first + n ≤ length choices) × ((k : ℕ) → k < n → choice_at choices (first + k) ≡ choice_at choices first)

abbrev pub AreLevel : (told : List ℕ) → List (Option ℕ) → Type 0
AreLevel told choices = (row n : ℕ) → slice_get told row ≡ Some n → 0 < n → AreLike choices (64 * row) n

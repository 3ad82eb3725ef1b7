-- The next location that has a value.
--   mask_long       a delta's mask has all its rows
--   next_here       the least bit of a row from a location on is the next location
--   rest_of_row     a row without such a bit has no further value
--   next_later      past locations that have none
--   none_behind     rows of 0 have no value
--   some_in_row     a row that is not 0 has a bit
--   next_row_later  past rows of 0
use Rattle.std.proofs.Common.{◌≡◌, ◌≢◌, ℕ, ◌+◌, ◌-◌, ◌*◌, ◌/◌, ◌%◌, ◌^◌, ◌<◌, ◌≤◌, List, length, get_or, Option, Some, None, MatchOption, ap, sym, subst, ◌∙◌, arith, length-drop}
use Rattle.std.specs.Int.{bit_at}
use Rattle.std.proofs.lemmas.Nat.Bits.{bit_at-zero, bit_at-lt, same_from_bits_below}
use mathlib.Core.Logic.{dite}
use native.Mathlib.Decide.{dec_le}
use Rattle.version_map.specs.declared.delta.Delta.{Delta}
use Rattle.version_map.specs.Masks.{rows, bit_in}
use Rattle.version_map.specs.Deltas.{at, locations, mask_of, AreEmpty, AreEmptyRows, IsNext, IsNextRow}
use Rattle.version_map.proofs.Bits.{chosen_zero, not_chosen, one_or_zero}

pub mask_long : (d : Delta) → length (mask_of d) ≡ rows (locations d)
mask_long d =
    let long = d.cells.ok.0 in
    let sized = d.sized.0 in
    let rest = length-drop d.count d.cells.items in omega (arith, long, sized, rest)

-- a bit of a row, as the bit of a location
pub bit_in_row : (mask : List ℕ) (row k : ℕ) → k < 64 → bit_in mask (64 * row + k) ≡ bit_at (get_or mask row 0) k
bit_in_row mask row k lt =
    let at_row : (64 * row + k) / 64 ≡ row = omega (arith, lt) in
    let at_bit : (64 * row + k) % 64 ≡ k = omega (arith, lt) in
    (λ i. bit_at (get_or mask (at_row i) 0) (at_bit i))

none_at : (d : Delta) (l : ℕ) → bit_in (mask_of d) l ≡ 0 → at d l ≡ None
none_at d l none = chosen_zero (bit_in (mask_of d) l) (get_or d.cells.items l 0) none

some_at : (d : Delta) (l : ℕ) → bit_in (mask_of d) l ≡ 1 → at d l ≢ None
some_at d l one = λ none. one_or_zero (bit_in (mask_of d) l) one
    (not_chosen (bit_in (mask_of d) l) (get_or d.cells.items l 0) (bit_at-lt (get_or (mask_of d) (l / 64) 0) (l % 64))
    none)

inside : (d : Delta) (l : ℕ) → bit_in (mask_of d) l ≡ 1 → l < locations d
inside d l one = dite (dec_le (locations d) l)
    (λ le. absurd (one_or_zero (bit_in (mask_of d) l) one (d.clean l le)))
    (λ lt. omega arith)

-- the bit of a location of a row of which no bit from this one on is set
in_rest : (d : Delta) (row m low j : ℕ) → m ≡ get_or (mask_of d) row 0 → 64 * row + low ≤ j → j < 64 * row + 64
    → ((i : ℕ) → low ≤ i → i < 64 → bit_at m i ≡ 0) → at d j ≡ None
in_rest d row m low j is lo hi none =
    let i : ℕ = j - 64 * row in
    let less : i < 64 = omega (arith, lo, hi) in
    let more : low ≤ i = omega (arith, lo) in
    let here : 64 * row + i ≡ j = omega (arith, lo) in
    none_at d j
    (subst (λ (z : ℕ). bit_in (mask_of d) z ≡ 0) here
    (bit_in_row (mask_of d) row i less ∙ (ap (λ (z : ℕ). bit_at z i) (sym is) ∙ none i more less)))

pub next_here : (d : Delta) (from row m k : ℕ) → row ≡ from / 64 → m ≡ get_or (mask_of d) row 0 → from % 64 ≤ k
    → k < 64 → bit_at m k ≡ 1 → ((i : ℕ) → from % 64 ≤ i → i < k → bit_at m i ≡ 0) → IsNext d from (64 * row + k)
next_here d from row m k at_row is low high one none =
    let set : bit_in (mask_of d) (64 * row + k) ≡ 1 =
    bit_in_row (mask_of d) row k high ∙ (ap (λ (z : ℕ). bit_at z k) (sym is) ∙ one) in (
      omega (arith, at_row, low),
      inside d (64 * row + k) set,
      some_at d (64 * row + k) set,
      λ j lo hi.
          let i : ℕ = j - 64 * row in
          let start : 64 * row + from % 64 ≡ from = omega (arith, at_row) in
          let more : from % 64 ≤ i = omega (arith, lo, start) in
          let less : i < k = omega (arith, hi, lo, start) in
          let here : 64 * row + i ≡ j = omega (arith, lo, start) in
          none_at d j
          (subst (λ (z : ℕ). bit_in (mask_of d) z ≡ 0) here
          (bit_in_row (mask_of d) row i (omega (arith, less, high))
          ∙ (ap (λ (z : ℕ). bit_at z i) (sym is) ∙ none i more less))),
    )

pub rest_of_row : (d : Delta) (from row m : ℕ) → row ≡ from / 64 → m ≡ get_or (mask_of d) row 0
    → ((i : ℕ) → from % 64 ≤ i → bit_at m i ≡ 0) → AreEmpty d from (64 * (row + 1))
rest_of_row d from row m at_row is none j lo hi =
    in_rest d row m (from % 64) j is (omega (arith, at_row, lo)) (omega (arith, hi)) (λ i more less. none i more)

pub next_later : (d : Delta) (from mid : ℕ) (o : Option ℕ) → from ≤ mid → AreEmpty d from mid
    → MatchOption o (AreEmpty d mid (locations d)) (IsNext d mid)
    → MatchOption o (AreEmpty d from (locations d)) (IsNext d from)
next_later d from mid None le low none = λ l lo hi.
    dite (dec_le mid l) (λ ge. none l ge hi) (λ lt. low l lo (omega arith))
next_later d from mid (Some x) le low is = (
  (let a = is.0 in omega (arith, a, le)),
  is.1,
  is.2,
  λ l lo hi. dite (dec_le mid l) (λ ge. is.3 l ge hi) (λ lt. low l lo (omega arith)),
)

-- rows of 0
pub none_behind : (d : Delta) (from to low high : ℕ) → AreEmptyRows d from to → 64 * from ≤ low → high ≤ 64 * to
    → AreEmpty d low high
none_behind d from to low high none le ge l lo hi =
    let zero = none (l / 64) (omega (arith, le, lo)) (omega (arith, hi, ge)) in
    none_at d l (ap (λ (z : ℕ). bit_at z (l % 64)) zero ∙ bit_at-zero (l % 64))

pub some_in_row : (m : ℕ) → m < 2 ^ 64 → m ≢ 0 → ((i : ℕ) → 0 ≤ i → bit_at m i ≡ 0) → ⊥
some_in_row m fits some none =
    some (same_from_bits_below 64 m 0 fits (omega arith) (λ i lt. none i (omega arith) ∙ sym (bit_at-zero i)))

-- the least bit of a row of the mask, behind rows of 0
pub next_in_row : (d : Delta) (from row m k : ℕ) → from ≤ row → AreEmptyRows d from row
    → m ≡ get_or (mask_of d) row 0 → k < 64 → bit_at m k ≡ 1 → ((i : ℕ) → 0 ≤ i → i < k → bit_at m i ≡ 0)
    → IsNext d (64 * from) (64 * row + k)
next_in_row d from row m k le low is high one none =
    let first : 64 * row % 64 ≡ 0 = omega arith in
    next_later d (64 * from) (64 * row) (Some (64 * row + k)) (omega (arith, le))
    (none_behind d from row (64 * from) (64 * row) low (omega arith) (omega arith))
    (next_here d (64 * row) row m k (omega arith) is (omega (arith, first)) high one
    (λ i lo hi. none i (omega arith) hi))

pub next_row_later : (d : Delta) (from mid : ℕ) (o : Option ℕ) → from ≤ mid → AreEmptyRows d from mid
    → MatchOption o (AreEmptyRows d mid (rows (locations d))) (IsNextRow d mid)
    → MatchOption o (AreEmptyRows d from (rows (locations d))) (IsNextRow d from)
next_row_later d from mid None le low none = λ l lo hi.
    dite (dec_le mid l) (λ ge. none l ge hi) (λ lt. low l lo (omega arith))
next_row_later d from mid (Some x) le low is = (
  (let a = is.0 in omega (arith, a, le)),
  is.1,
  is.2,
  λ l lo hi. dite (dec_le mid l) (λ ge. is.3 l ge hi) (λ lt. low l lo (omega arith)),
)

-- A row of 64 locations that is written at once.
--   part_at, part_below, part_above   a word of a list where a part of it was written
--   part_is       what a vector holds then
--   row_mask      the mask after the row was written
--   row_here      the values of the row then
--   row_bit       the bits of all other locations
--   row_else      their values
--   row_has, row_is_full, row_told   all 64 locations have values exactly where the mask's word has all bits
use Rattle.std.proofs.Common.{◌≡◌, ◌≢◌, ◌∙◌, ap, sym, refl, ℕ, ◌+◌, ◌-◌, ◌*◌, ◌/◌, ◌%◌, ◌<◌, ◌≤◌, ◌^◌, List, ◌++◌, length, take, drop}
use Rattle.std.proofs.Common.{Bool, true, false, MatchBool, rules, get_or, set, None, Some, Option, arith, subst, get_or-set_same, get_or-set_other}
use Rattle.std.proofs.lemmas.List.{drop-set-add, length-set, places, take_at}
use Rattle.std.proofs.lemmas.Nat.Bits.{bit_at_ones, bit_at-lt, same_from_bits_below}
use Rattle.std.proofs.lemmas.Slice.{drop-put_mid}
use Rattle.std.proofs.lemmas.Bool.Decides.{nat_tests}
use Rattle.std.specs.Prelude.{nat_eq}
use Rattle.std.specs.Int.{bit_at}
use borrow.Rule.Slice.PartMut.{put_mid}
use mathlib.Core.Logic.{dite}
use native.Mathlib.Decide.{ℕ_discrete}
use Rattle.version_map.specs.Masks.{rows, bit_in, chosen}
use Rattle.version_map.proofs.Bits.{chosen_one, chosen_zero, has_row}

part_at : (a k i : ℕ) (xs ys : List ℕ) → a ≤ length xs → length ys ≡ k → i < k
    → get_or (put_mid a k xs ys) (a + i) 0 ≡ get_or ys i 0
part_at a k i xs ys h e lt = search (rules, places)

part_below : (a k i : ℕ) (xs ys : List ℕ) → a ≤ length xs → i < a → get_or (put_mid a k xs ys) i 0 ≡ get_or xs i 0
part_below a k i xs ys h lt = search (rules, places)

part_above : (a k i : ℕ) (xs ys : List ℕ) → a ≤ length xs → length ys ≡ k → a + k ≤ i
    → get_or (put_mid a k xs ys) i 0 ≡ get_or xs i 0
part_above a k i xs ys h e le = search (rules, places)

part_long : (a k : ℕ) (xs ys : List ℕ) → a + k ≤ length xs → length ys ≡ k → length (put_mid a k xs ys) ≡ length xs
part_long a k xs ys h e = search (rules, places)

-- what a vector holds after a part of it was written
pub part_is : (len a k : ℕ) (xs held ys put : List ℕ) → held ≡ xs → put ≡ ys → length ys ≡ k → a + k ≤ length xs
    → length xs ≡ len
    → take len (put_mid a k held put ++ drop (length (put_mid a k held put)) xs) ≡ put_mid a k xs ys
part_is len a k xs held ys put same is many room long =
    (λ i. take len (put_mid a k (same i) (is i) ++ drop (length (put_mid a k (same i) (is i))) xs))
    ∙ take_at (put_mid a k xs ys) (drop (length (put_mid a k xs ys)) xs) len
    (part_long a k xs ys room many ∙ long)

abbrev pub ones : ℕ
ones = 2 ^ 64 - 1

module _ (n row k : ℕ) (cells words items : List ℕ) (within : 64 * row + 64 ≤ n) (long : length cells ≡ n + rows n)
    (many : length words ≡ k) (width : k ≡ 64)
    (is : items ≡ put_mid (64 * row) k (set cells (n + row) ones) words) where
  abbrev before : List ℕ
  before = set cells (n + row) ones

  room : 64 * row ≤ length before
  room = let e = length-set cells (n + row) ones in omega arith

  over : row < rows n
  over = omega arith

  pub row_mask : drop n items ≡ set (drop n cells) row ones
  row_mask = ap (drop n) is
      ∙ (drop-put_mid (64 * row) k before words n (omega arith) room many ∙ drop-set-add n cells row ones)

  pub row_here : (j : ℕ) → j < 64
      → chosen (bit_in (drop n items) (64 * row + j)) (get_or items (64 * row + j) 0) ≡ Some (get_or words j 0)
  row_here j lt =
      let at_row : (64 * row + j) / 64 ≡ row = omega arith in
      let at_bit : (64 * row + j) % 64 ≡ j = omega arith in
      chosen_one _ _ _
      (ap (λ (m : List ℕ). bit_in m (64 * row + j)) row_mask
      ∙ (ap (λ (r : ℕ). bit_at (get_or (set (drop n cells) row ones) r 0) ((64 * row + j) % 64)) at_row
      ∙ (ap (λ (w : ℕ). bit_at w ((64 * row + j) % 64))
      (get_or-set_same (drop n cells) row ones 0 (has_row n row cells (omega arith)))
      ∙ (ap (bit_at ones) at_bit ∙ bit_at_ones 64 j lt))))
      (ap (λ (xs : List ℕ). get_or xs (64 * row + j) 0) is
      ∙ part_at (64 * row) k j before words room many (omega arith))

  pub row_bit : (l : ℕ) → l / 64 ≢ row → bit_in (drop n items) l ≡ bit_in (drop n cells) l
  row_bit l ne =
      ap (λ (m : List ℕ). bit_in m l) row_mask
      ∙ ap (λ (w : ℕ). bit_at w (l % 64)) (get_or-set_other (drop n cells) row (l / 64) ones 0 ne)

  word_else : (l : ℕ) → l < n → l / 64 ≢ row → get_or items l 0 ≡ get_or cells l 0
  word_else l lt ne =
      ap (λ (xs : List ℕ). get_or xs l 0) is
      ∙ (outside l ne ∙ get_or-set_other cells (n + row) l ones 0 (λ e. omega arith))
    where
      outside : (l : ℕ) → l / 64 ≢ row → get_or (put_mid (64 * row) k before words) l 0 ≡ get_or before l 0
      outside l ne = dite (ℕ_discrete (64 * row - l) 0)
          (λ e. part_above (64 * row) k l before words room many (omega arith))
          (λ q. part_below (64 * row) k l before words room (omega arith))

  pub row_else : ((j : ℕ) → n ≤ j → bit_in (drop n cells) j ≡ 0) → (l : ℕ) → l / 64 ≢ row
      → chosen (bit_in (drop n items) l) (get_or items l 0) ≡ chosen (bit_in (drop n cells) l) (get_or cells l 0)
  row_else clean l ne = dite (ℕ_discrete (n - l) 0)
      (λ above.
      let none = clean l (omega arith) in
      chosen_zero _ _ (row_bit l ne ∙ none) ∙ sym (chosen_zero _ _ none))
      (λ below.
      let p = row_bit l ne in let q = word_else l (omega arith) ne in
      (λ i. chosen (p i) (q i)))

-- ---- a row all of whose locations have values

abbrev IsSome : Option ℕ → Type 0
IsSome None = ⊥
IsSome (Some w) = Unit {0}

pub row_has : (mask : List ℕ) (words : ℕ → ℕ) (row : ℕ) → get_or mask row 0 ≡ ones → (k : ℕ) → k < 64
    → chosen (bit_in mask (64 * row + k)) (words (64 * row + k)) ≢ None
row_has mask words row full k lt = λ none.
    let at_row : (64 * row + k) / 64 ≡ row = omega arith in
    let at_bit : (64 * row + k) % 64 ≡ k = omega arith in
    let one : bit_in mask (64 * row + k) ≡ 1 =
    ap (λ (r : ℕ). bit_at (get_or mask r 0) ((64 * row + k) % 64)) at_row
    ∙ (ap (λ (w : ℕ). bit_at w ((64 * row + k) % 64)) full ∙ (ap (bit_at ones) at_bit ∙ bit_at_ones 64 k lt)) in
    subst IsSome (sym (chosen_one _ (words (64 * row + k)) _ one refl) ∙ none) tt

not_none : (b w : ℕ) → b < 2 → chosen b w ≢ None → b ≡ 1
not_none b w h some = dite (ℕ_discrete b 1) (λ one. one)
    (λ ne. absurd (some (chosen_zero b w (omega arith))))

pub row_is_full : (mask : List ℕ) (words : ℕ → ℕ) (row : ℕ) → get_or mask row 0 < 2 ^ 64
    → ((k : ℕ) → k < 64 → chosen (bit_in mask (64 * row + k)) (words (64 * row + k)) ≢ None)
    → get_or mask row 0 ≡ ones
row_is_full mask words row fits some = same_from_bits_below 64 (get_or mask row 0) ones fits (omega arith)
    (λ i h.
    let l : ℕ = 64 * row + i in
    let at_row : l / 64 ≡ row = omega arith in
    let at_bit : l % 64 ≡ i = omega arith in
    let one = not_none (bit_in mask l) (words l) (bit_at-lt (get_or mask (l / 64) 0) (l % 64)) (some i h) in
    subst (λ (k : ℕ). bit_at (get_or mask k 0) i ≡ 1) at_row
    (subst (λ (b : ℕ). bit_at (get_or mask (l / 64) 0) b ≡ 1) at_bit one)
    ∙ sym (bit_at_ones 64 i h))

pub row_told : (mask : List ℕ) (words : ℕ → ℕ) (row bits : ℕ) → bits < 2 ^ 64 → bits ≡ get_or mask row 0
    → MatchBool (nat_eq bits ones)
    ((k : ℕ) → k < 64 → chosen (bit_in mask (64 * row + k)) (words (64 * row + k)) ≢ None)
    (((k : ℕ) → k < 64 → chosen (bit_in mask (64 * row + k)) (words (64 * row + k)) ≢ None) → ⊥)
row_told mask words row bits fits is = by (nat_eq bits ones) refl
  where
    by : (b : Bool) → nat_eq bits ones ≡ b → MatchBool b
        ((k : ℕ) → k < 64 → chosen (bit_in mask (64 * row + k)) (words (64 * row + k)) ≢ None)
        (((k : ℕ) → k < 64 → chosen (bit_in mask (64 * row + k)) (words (64 * row + k)) ≢ None) → ⊥)
    by true e = (let full : bits ≡ ones = grind (arith, nat_tests, e) in row_has mask words row (sym is ∙ full))
    by false e = λ some.
        let full : bits ≡ ones =
        is ∙ row_is_full mask words row (subst (λ (w : ℕ). w < 2 ^ 64) is fits) some in
        grind (arith, nat_tests, e, full)

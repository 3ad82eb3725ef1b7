-- A word that says which of the first 64 rows of a mask are not 0.
--   summary_none     of a mask of zeros
--   unset_none       in which no bit is set
--   summary_after    after a row was written, and its bit
--   row_inside       a row that is not 0 is one of the mask's
--   both_set         a row with a bit, and its bit in the summary
--   summary_some     a row whose bit in the summary is 1 is not 0
--   summary_zero     and one whose bit is 0 is 0
--   still_unset      a bit that is 0 stays so where a row was made 0
use Rattle.std.proofs.Common.{◌≡◌, ◌≢◌, ℕ, ◌+◌, ◌/◌, ◌%◌, ◌<◌, ◌↔◌, List, length, get_or, set, drop, replicate, ap, sym, subst, ◌∙◌, arith, get_or-set_same, get_or-set_other, get_or-drop}
use Rattle.std.proofs.lemmas.List.{get_or-replicate, get_or_past, length-replicate}
use Rattle.std.specs.Int.{bit_at}
use Rattle.std.proofs.lemmas.Nat.Bits.{bit_at-zero}
use mathlib.Core.Logic.{dite}
use native.Mathlib.Decide.{ℕ_discrete, dec_le}
use Rattle.version_map.specs.Masks.{IsSummary, bit_in}
use Rattle.version_map.proofs.Bits.{one_or_zero}

-- zeros alone
zero_at : (n z k : ℕ) → get_or (replicate n z) k z ≡ z
zero_at n z k = dite (dec_le n k)
    (λ le. get_or_past (replicate n z) k z (let e = length-replicate n z in omega (arith, e, le)))
    (λ lt. get_or-replicate n k z z (omega arith))

row_zero : (n m row : ℕ) (cells : List ℕ) → cells ≡ replicate m 0 → get_or (drop n cells) row 0 ≡ 0
row_zero n m row cells is =
    get_or-drop n cells row 0 ∙ (ap (λ (xs : List ℕ). get_or xs (n + row) 0) is ∙ zero_at m 0 (n + row))

pub summary_none : (n m : ℕ) (cells : List ℕ) → cells ≡ replicate m 0 → IsSummary 0 (drop n cells)
unfolding IsSummary
summary_none n m cells is row lt = (λ none. row_zero n m row cells is, λ none. bit_at-zero row)

pub unset_none : (n m l : ℕ) (cells : List ℕ) → cells ≡ replicate m 0 → bit_in (drop n cells) l ≡ 0
unset_none n m l cells is =
    ap (λ (w : ℕ). bit_at w (l % 64)) (row_zero n m (l / 64) cells is) ∙ bit_at-zero (l % 64)

pub summary_after : (mask : List ℕ) (summary summary' row x : ℕ) → row < length mask
    → (row < 64 → (bit_at summary' row ≡ 0) ↔ (x ≡ 0))
    → ((i : ℕ) → i < 64 → i ≢ row → bit_at summary' i ≡ bit_at summary i)
    → IsSummary summary mask → IsSummary summary' (set mask row x)
unfolding IsSummary
summary_after mask summary summary' row x within here others old r lt = dite (ℕ_discrete r row)
    (λ is.
    let same : get_or (set mask row x) r 0 ≡ x =
    ap (λ (k : ℕ). get_or (set mask row x) k 0) is ∙ get_or-set_same mask row x 0 within in
    let h = here (subst (λ (k : ℕ). k < 64) is lt) in (
      λ z. same ∙ h.0 (ap (bit_at summary') (sym is) ∙ z),
      λ z. ap (bit_at summary') is ∙ h.1 (sym same ∙ z),
    ))
    (λ ne.
    let same : get_or (set mask row x) r 0 ≡ get_or mask r 0 = get_or-set_other mask row r x 0 ne in
    let bit : bit_at summary' r ≡ bit_at summary r = others r lt ne in (
      λ z. same ∙ (old r lt).0 (sym bit ∙ z),
      λ z. bit ∙ (old r lt).1 (sym same ∙ z),
    ))

pub row_inside : (mask : List ℕ) (row : ℕ) → get_or mask row 0 ≢ 0 → row < length mask
row_inside mask row some = dite (dec_le (length mask) row) (λ le. absurd (some (get_or_past mask row 0 le)))
    (λ lt. omega arith)

-- a word with a bit is not 0, and neither is its bit in the summary
pub both_set : (summary row x k : ℕ) → bit_at summary row ≡ 1 → bit_at x k ≡ 1
    → (bit_at summary row ≡ 0) ↔ (x ≡ 0)
both_set summary row x k one set = (
  λ z. absurd (one_or_zero (bit_at summary row) one z),
  λ z. absurd (one_or_zero (bit_at x k) set (ap (λ (w : ℕ). bit_at w k) z ∙ bit_at-zero k)),
)

-- where the row of the summary's bit is not 0
pub summary_some : (summary row : ℕ) (mask : List ℕ) → IsSummary summary mask → row < 64 → bit_at summary row ≡ 1
    → get_or mask row 0 ≢ 0
unfolding IsSummary
summary_some summary row mask is lt one = λ z. one_or_zero (bit_at summary row) one ((is row lt).1 z)

-- and where it is, so is the row
pub summary_zero : (summary row : ℕ) (mask : List ℕ) → IsSummary summary mask → row < 64 → bit_at summary row ≡ 0
    → get_or mask row 0 ≡ 0
unfolding IsSummary
summary_zero summary row mask is lt none = (is row lt).0 none

pub still_unset : (mask : List ℕ) (row l : ℕ) → row < length mask → bit_in mask l ≡ 0 → bit_in (set mask row 0) l ≡ 0
still_unset mask row l within unset = dite (ℕ_discrete (l / 64) row)
    (λ is. ap (λ (w : ℕ). bit_at w (l % 64))
    (ap (λ (k : ℕ). get_or (set mask row 0) k 0) is ∙ get_or-set_same mask row 0 0 within)
    ∙ bit_at-zero (l % 64))
    (λ ne. ap (λ (w : ℕ). bit_at w (l % 64)) (get_or-set_other mask row (l / 64) 0 0 ne) ∙ unset)

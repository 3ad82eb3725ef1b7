-- Positions of the input, as words without a kind.
use Rattle.std.proofs.Common.{◌≡◌, ◌∙◌, ℕ, zero, suc, ◌<◌, ◌≤◌, ◌^◌, Bool, true, false, ℤ, pos, negsuc, List, [], ◌∷◌, length, Some, None, refl, ap, arith}
use Rattle.std.specs.Prelude.{slice_get, nat_lt, if◌then◌else◌, ◌-◌}
use Rattle.std.proofs.lemmas.Bool.Decides.{nat_tests}
use Rattle.rev_num.specs.Words.{int_of}
use Rattle.block_run.specs.Marks.{input, count, index_marks, position_marks}

inside : (xs : List ℤ) (n : ℕ) → n < length xs → (z : ℤ) × (slice_get xs n ≡ Some z)
inside [] n h = absurd (omega (arith, h))
inside (x ∷ xs) zero h = (x, refl)
inside (x ∷ xs) (suc n) h = inside xs n (omega (arith, h))

outside : (xs : List ℤ) (n : ℕ) → length xs ≤ n → slice_get xs n ≡ None
outside [] n h = refl
outside (x ∷ xs) zero h = absurd (omega (arith, h))
outside (x ∷ xs) (suc n) h = outside xs n (omega (arith, h))

pub index_inside : (inputs : List ℤ) (w : ℕ) → w < length inputs → length inputs < 2 ^ 32
    → index_marks inputs (int_of w) ≡ input w ∷ []
index_inside inputs w h few =
    let small : w < 2 ^ 63 = omega (arith, h, few) in
    let t : nat_lt w (2 ^ 63) ≡ true = grind (arith, nat_tests, small) in
    ap (λ d. index_marks inputs (if d then pos w else negsuc (2 ^ 64 - 1 - w))) t
    ∙ ap (position_marks w) (inside inputs w h).1

pub index_outside : (inputs : List ℤ) (w : ℕ) → length inputs ≤ w → index_marks inputs (int_of w) ≡ count ∷ []
index_outside inputs w h = by (nat_lt w (2 ^ 63))
  where
    by : (d : Bool) → index_marks inputs (if d then pos w else negsuc (2 ^ 64 - 1 - w)) ≡ count ∷ []
    by true = ap (position_marks w) (outside inputs w h)
    by false = refl

-- Division truncates, and fails only at a divisor 0 and at the least number by -1.
use Rattle.std.proofs.Common.{◌≡◌, ◌≢◌, ap, ℕ, ◌-◌, zero, suc, ◌<◌, ◌≤◌, ◌%◌, ◌/◌, ◌^◌, true, ℤ, refl, arith, rules}
use Rattle.std.proofs.Math.Nat.{div-le_self, div-lt_self, zero-mod}
use Rattle.std.specs.Prelude.{Ok, pos, negsuc, neg_ℤ, ◌≤ℤ◌, int_div, int_rem, unsigned_abs}
use Rattle.std.proofs.lemmas.Int.{ints, quot-rem, rem_below}
use Rattle.rev_num.specs.Arith.{fits_i64, quotient_of, remainder_of}
use Rattle.rev_num.specs.Laws.{DivisionFailsOnlyThere, IsTruncatedDivision, least_i64}
use Rattle.rev_num.proofs.Decimals.{fits_negated, fits_pos, pos_fits}

divisor_counts : (b : ℤ) → b ≢ pos 0 → 0 < unsigned_abs b
divisor_counts (pos zero) some = absurd (some refl)
divisor_counts (pos (suc b)) some = omega arith
divisor_counts (negsuc b) some = omega arith

rem_not_below : (a b : ℤ) → pos 0 ≤ℤ a → pos 0 ≤ℤ int_rem a b
rem_not_below (pos a) b h = omega (arith, ints)
rem_not_below (negsuc a) b h = absurd (omega (arith, ints, h))

negated_not_above : (n : ℕ) → neg_ℤ (pos n) ≤ℤ pos 0
negated_not_above zero = omega (arith, ints)
negated_not_above (suc n) = omega (arith, ints)

rem_not_above : (a b : ℤ) → a ≤ℤ pos 0 → int_rem a b ≤ℤ pos 0
rem_not_above (pos zero) b h = omega (arith, ints, zero-mod (unsigned_abs b))
rem_not_above (pos (suc a)) b h = absurd (omega (arith, ints, h))
rem_not_above (negsuc a) b h = negated_not_above (suc a % unsigned_abs b)

pub truncates : (a b : ℤ) → b ≢ pos 0 → IsTruncatedDivision a b (int_div a b) (int_rem a b)
truncates a b some = record {
  whole = quot-rem a b;
  small = rem_below a b (divisor_counts b some);
  not_below = rem_not_below a b;
  not_above = rem_not_above a b;
}

-- ---- where there is a result

negsuc_fits : (a : ℕ) → fits_i64 (negsuc a) ≡ true → suc a ≤ 2 ^ 63
negsuc_fits a h = grind (arith, rules)

quotient_fits : (a b : ℤ) → fits_i64 a ≡ true → (a ≡ least_i64 → b ≢ negsuc 0) → fits_i64 (int_div a b) ≡ true
quotient_fits (pos a) (pos b) fits other = fits_pos (a / b) (omega (arith, pos_fits a fits, div-le_self a b))
quotient_fits (pos a) (negsuc b) fits other =
    fits_negated (a / suc b) (omega (arith, pos_fits a fits, div-le_self a (suc b)))
quotient_fits (negsuc a) (pos b) fits other =
    fits_negated (suc a / b) (omega (arith, negsuc_fits a fits, div-le_self (suc a) b))
quotient_fits (negsuc a) (negsuc zero) fits other =
    let not_least : a ≢ 2 ^ 63 - 1 = λ is. other (ap negsuc is) refl in
    fits_pos (suc a / 1) (omega (arith, negsuc_fits a fits, div-le_self (suc a) 1, not_least))
quotient_fits (negsuc a) (negsuc (suc b)) fits other =
    fits_pos (suc a / suc (suc b))
    (omega (arith, negsuc_fits a fits, div-lt_self {n = suc a} {k = suc (suc b)} (omega arith) (omega arith)))

results : (a b : ℤ) → fits_i64 a ≡ true → b ≢ pos 0 → (a ≡ least_i64 → b ≢ negsuc 0)
    → (quotient_of a b ≡ Ok (int_div a b)) × (remainder_of a b ≡ Ok (int_rem a b))
results a (pos zero) fits some other = absurd (some refl)
results a (pos (suc b)) fits some other = let q = quotient_fits a (pos (suc b)) fits other in (rw q, rw q)
results a (negsuc b) fits some other = let q = quotient_fits a (negsuc b) fits other in (rw q, rw q)

pub fails_only_there : DivisionFailsOnlyThere
fails_only_there = record { by_zero = λ a. (refl, refl); least = (refl, refl); others = results }

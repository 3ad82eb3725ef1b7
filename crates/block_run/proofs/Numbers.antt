-- Numbers of 64 bits and their words.
use Rattle.std.proofs.Common.{◌≡◌, ◌≢◌, ◌∙◌, ℕ, zero, suc, ◌-◌, ◌<◌, ◌≤◌, ◌^◌, Bool, true, false, not, ℤ, ◌+ℤ◌, ◌-ℤ◌, ◌*ℤ◌, neg_ℤ, pos, negsuc, refl, sym, ap, arith}
use Rattle.std.specs.Prelude.{if◌then◌else◌, nat_lt, nat_eq, Ok, Err, Result, int_div, int_rem, unsigned_abs}
use Rattle.std.proofs.lemmas.Bool.Decides.{nat_tests}
use Rattle.std.proofs.lemmas.Int.{ints}
use Rattle.rev_num.specs.declared.value.NumFault.{NumFault}
use Rattle.rev_num.specs.declared.value.NumFault.TheVariants as fault
use Rattle.rev_num.specs.Arith.{fits_i64, checked, sum_of, difference_of, product_of, quotient_of, remainder_of, negation_of}
use Rattle.rev_num.specs.Words.{int_of, word_of}
use Rattle.rev_num.proofs.Division.{truncates}
use Rattle.rev_num.specs.Value.{same_number, same_truth}
use Rattle.block_run.specs.Plain.{flag}

abbrev okay : ℤ → Result ℤ NumFault
okay z = Ok z

abbrev failed : NumFault → Result ℤ NumFault
failed f = Err f

ok_is : {z y : ℤ} → okay z ≡ okay y → z ≡ y
ok_is h = cc

err_no : {f : NumFault} {y : ℤ} → failed f ≡ okay y → ⊥
err_no h = cc

suc_no : {b : ℕ} → pos (suc b) ≡ pos 0 → ⊥
suc_no {b = b} h = omega (arith, ints, h)

negsuc_no : {b : ℕ} → negsuc b ≡ pos 0 → ⊥
negsuc_no h = cc

pub word_small : (z : ℤ) → fits_i64 z ≡ true → word_of z < 2 ^ 64
word_small (pos n) h = grind (arith, nat_tests, h)
word_small (negsuc n) h = omega arith

pub word_back : (z : ℤ) → fits_i64 z ≡ true → z ≡ int_of (word_of z)
word_back (pos n) h = rw h
word_back (negsuc n) h =
    let low : nat_lt (2 ^ 64 - 1 - n) (2 ^ 63) ≡ false = grind (arith, nat_tests, h) in
    let small : n < 2 ^ 63 = grind (arith, nat_tests, h) in
    let back : n ≡ 2 ^ 64 - 1 - (2 ^ 64 - 1 - n) = omega (arith, small) in
    ap negsuc back ∙ sym (ap (λ d. if d then pos (2 ^ 64 - 1 - n) else negsuc (2 ^ 64 - 1 - (2 ^ 64 - 1 - n))) low)

-- ---- results fit

module _ (y : ℤ) where
  if_fits : (d : Bool) (z : ℤ) (f : NumFault) → (fits_i64 z ≡ d) → (if d then Ok z else Err f) ≡ Ok y
      → fits_i64 y ≡ true
  if_fits true z f e h = let g : z ≡ y = ok_is h in sym (ap fits_i64 g) ∙ e
  if_fits false z f e h = absurd (err_no h)

  pub checked_fits : (z : ℤ) → checked z ≡ Ok y → fits_i64 y ≡ true
  checked_fits z h = if_fits (fits_i64 z) z fault.Overflow refl h

-- ---- division

quotient_fits : (a b y : ℤ) → quotient_of a b ≡ Ok y → fits_i64 y ≡ true
quotient_fits a (pos zero) y h = absurd (err_no h)
quotient_fits a (pos (suc b)) y h =
    if_fits y (fits_i64 (int_div a (pos (suc b)))) (int_div a (pos (suc b))) fault.Overflow refl h
quotient_fits a (negsuc b) y h =
    if_fits y (fits_i64 (int_div a (negsuc b))) (int_div a (negsuc b)) fault.Overflow refl h

below_fits : (r b : ℤ) → fits_i64 b ≡ true → unsigned_abs r < unsigned_abs b → fits_i64 r ≡ true
below_fits (pos r) (pos b) h l =
    let m : b < 2 ^ 63 = grind (arith, nat_tests, h) in
    let n : r < 2 ^ 63 = omega (arith, l, m) in
    grind (arith, nat_tests, n)
below_fits (pos r) (negsuc b) h l =
    let m : b < 2 ^ 63 = grind (arith, nat_tests, h) in
    let n : r < 2 ^ 63 = omega (arith, l, m) in
    grind (arith, nat_tests, n)
below_fits (negsuc r) (pos b) h l =
    let m : b < 2 ^ 63 = grind (arith, nat_tests, h) in
    let n : r < 2 ^ 63 = omega (arith, l, m) in
    grind (arith, nat_tests, n)
below_fits (negsuc r) (negsuc b) h l =
    let m : b < 2 ^ 63 = grind (arith, nat_tests, h) in
    let n : r < 2 ^ 63 = omega (arith, l, m) in
    grind (arith, nat_tests, n)

ok_if : (d : Bool) (z y : ℤ) (f : NumFault) → (if d then Ok z else Err f) ≡ Ok y → z ≡ y
ok_if true z y f h = ok_is h
ok_if false z y f h = absurd (err_no h)

rem_fits : (a b y : ℤ) → fits_i64 b ≡ true → b ≢ pos 0 → int_rem a b ≡ y → fits_i64 y ≡ true
rem_fits a b y h some e = ap fits_i64 (sym e) ∙ below_fits (int_rem a b) b h (truncates a b some).small

remainder_fits : (a b y : ℤ) → fits_i64 b ≡ true → remainder_of a b ≡ Ok y → fits_i64 y ≡ true
remainder_fits a (pos zero) y g h = absurd (err_no h)
remainder_fits a (pos (suc b)) y g h =
    rem_fits a (pos (suc b)) y g (λ e. suc_no e) (ok_if (fits_i64 (int_div a (pos (suc b)))) _ y fault.Overflow h)
remainder_fits a (negsuc b) y g h =
    rem_fits a (negsuc b) y g (λ e. negsuc_no e) (ok_if (fits_i64 (int_div a (negsuc b))) _ y fault.Overflow h)

-- ---- what arithmetic gives for numbers of 64 bits has 64 bits

abbrev pub Fit : (ℤ → ℤ → Result ℤ NumFault) → Type 0
Fit f = (a b y : ℤ) → fits_i64 b ≡ true → f a b ≡ Ok y → fits_i64 y ≡ true

pub sums : Fit sum_of
sums a b y g h = checked_fits y (a +ℤ b) h

pub differences : Fit difference_of
differences a b y g h = checked_fits y (a -ℤ b) h

pub products : Fit product_of
products a b y g h = checked_fits y (a *ℤ b) h

pub quotients : Fit quotient_of
quotients a b y g h = quotient_fits a b y h

pub remainders : Fit remainder_of
remainders a b y g h = remainder_fits a b y g h

pub negations : (a y : ℤ) → negation_of a ≡ Ok y → fits_i64 y ≡ true
negations a y h = checked_fits y (neg_ℤ a) h

-- ---- words

pub int_fits : (w : ℕ) → w < 2 ^ 64 → fits_i64 (int_of w) ≡ true
int_fits w h = by (nat_lt w (2 ^ 63)) refl
  where
    by : (d : Bool) → nat_lt w (2 ^ 63) ≡ d → fits_i64 (if d then pos w else negsuc (2 ^ 64 - 1 - w)) ≡ true
    by true e = e
    by false e =
        let m : 2 ^ 63 ≤ w = grind (arith, nat_tests, e) in
        let n : 2 ^ 64 - 1 - w < 2 ^ 63 = omega (arith, m, h) in
        grind (arith, nat_tests, n)

-- two words are equal where their numbers are
pub same_words : (v w : ℕ) → v < 2 ^ 64 → w < 2 ^ 64 → same_number (int_of v) (int_of w) ≡ nat_eq v w
same_words v w g h = by (nat_lt v (2 ^ 63)) (nat_lt w (2 ^ 63)) refl refl
  where
    number_of : Bool → ℕ → ℤ
    number_of d u = if d then pos u else negsuc (2 ^ 64 - 1 - u)

    by : (d e : Bool) → nat_lt v (2 ^ 63) ≡ d → nat_lt w (2 ^ 63) ≡ e
        → same_number (if d then pos v else negsuc (2 ^ 64 - 1 - v)) (if e then pos w else negsuc (2 ^ 64 - 1 - w))
        ≡ nat_eq v w
    by true true a b = refl
    by true false a b =
        (let m : v < 2 ^ 63 = grind (arith, nat_tests, a) in
        let n : 2 ^ 63 ≤ w = grind (arith, nat_tests, b) in
        let o : v ≢ w = omega (arith, m, n) in
        grind (arith, nat_tests, o))
    by false true a b =
        (let m : w < 2 ^ 63 = grind (arith, nat_tests, b) in
        let n : 2 ^ 63 ≤ v = grind (arith, nat_tests, a) in
        let o : v ≢ w = omega (arith, m, n) in
        grind (arith, nat_tests, o))
    by false false a b = grind (arith, nat_tests)

pub same_flags : (d e : Bool) → same_truth d e ≡ nat_eq (flag d) (flag e)
same_flags true true = refl
same_flags true false = refl
same_flags false true = refl
same_flags false false = refl

pub not_flag : (d : Bool) → not d ≡ nat_eq (flag d) 0
not_flag true = refl
not_flag false = refl

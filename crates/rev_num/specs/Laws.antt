-- Laws of words, of decimals and of division.
use Rattle.std.specs.Prelude.{◌≡◌, ◌≢◌, ℕ, ◌-◌, ◌^◌, ◌<◌, ◌↔◌, ℤ, pos, negsuc, ◌+ℤ◌, ◌*ℤ◌, ◌≤ℤ◌, int_div, int_rem, unsigned_abs, IsTrue, List, Some, Ok, Err}
use Rattle.std.specs.Fmt.{signed_decimal}
use Rattle.rev_num.specs.Arith.{fits_i64, quotient_of, remainder_of}
use Rattle.rev_num.specs.Decimal.{IsDecimal, decimal_in}
use Rattle.rev_num.specs.Words.{int_of, word_of}
use Rattle.rev_num.specs.declared.value.NumFault.TheVariants.{Overflow, ZeroDivisor}

-- a number of 64 bits goes to its word and back, and a word of 64 bits to its number and back
pub record WordsAndNumbersAreInverse : Type 0 where
  pub number : (n : ℤ) → IsTrue (fits_i64 n) → (word_of n < 2 ^ 64) × (int_of (word_of n) ≡ n)
  pub word : (w : ℕ) → w < 2 ^ 64 → IsTrue (fits_i64 (int_of w)) × (word_of (int_of w) ≡ w)

-- a number of 64 bits is found exactly in the bytes that are a decimal for it, and no other number
-- is found
abbrev pub DecimalsAreExact : Type 0
DecimalsAreExact = (bytes : List ℕ) (n : ℤ) → (decimal_in bytes ≡ Some n) ↔ (IsTrue (fits_i64 n) × IsDecimal bytes n)

-- what is written of a number of 64 bits is read again as that number
abbrev pub WrittenIsRead : Type 0
WrittenIsRead = (n : ℤ) → IsTrue (fits_i64 n) → decimal_in (signed_decimal n) ≡ Some n

-- q and r are the quotient, rounded toward zero, and the remainder, with the sign of the dividend
pub record IsTruncatedDivision (a b q r : ℤ) : Type 0 where
  pub whole : q *ℤ b +ℤ r ≡ a
  pub small : unsigned_abs r < unsigned_abs b
  pub not_below : pos 0 ≤ℤ a → pos 0 ≤ℤ r
  pub not_above : a ≤ℤ pos 0 → r ≤ℤ pos 0

abbrev pub DivisionTruncates : Type 0
DivisionTruncates = (a b : ℤ) → b ≢ pos 0 → IsTruncatedDivision a b (int_div a b) (int_rem a b)

-- the least number that 64 bits hold
abbrev pub least_i64 : ℤ
least_i64 = negsuc (2 ^ 63 - 1)

-- there is no result at a divisor 0, nor of the least number by -1; elsewhere there is one, if 64
-- bits hold the dividend
pub record DivisionFailsOnlyThere : Type 0 where
  pub by_zero : (a : ℤ) → (quotient_of a (pos 0) ≡ Err ZeroDivisor) × (remainder_of a (pos 0) ≡ Err ZeroDivisor)
  pub least : (quotient_of least_i64 (negsuc 0) ≡ Err Overflow) × (remainder_of least_i64 (negsuc 0) ≡ Err Overflow)
  pub others : (a b : ℤ) → IsTrue (fits_i64 a) → b ≢ pos 0 → (a ≡ least_i64 → b ≢ negsuc 0)
      → (quotient_of a b ≡ Ok (int_div a b)) × (remainder_of a b ≡ Ok (int_rem a b))

-- Whether bytes are the decimal of a number.
use Rattle.std.proofs.Common.{◌≡◌, ◌≢◌, ◌∙◌, ◌⊎◌, inl, inr, sym, ap, ℕ, ◌<◌, ◌≤◌, ◌^◌, true, false, Bool, ℤ, List, refl, arith}
use Rattle.std.specs.Prelude.{nat_lt, IsTrue, Option, Some, None}
use Rattle.std.specs.Fmt.{decimal, signed_decimal}
use Rattle.std.proofs.lemmas.Bool.Decides.{nat_tests}
use Rattle.std.proofs.lemmas.Fmt.{digits_value-decimal}
use Rattle.rev_num.specs.Arith.{fits_i64}
use Rattle.rev_num.specs.Decimal.{decimal_in, spelled}
use Rattle.rev_num.proofs.Decimals.{decimal_in-is, own}
use Rattle.trace_diagram.proofs.Spelling as spelling
use Rattle.program_texts.proofs.Deciding.{Readable, Reader, spells, spells_none, same_or_not}

-- ---- numbers below a limit

below_or_not : (n limit : ℕ) → (n < limit) ⊎ (n < limit → ⊥)
below_or_not n limit = by_test (nat_lt n limit) refl
  where
    by_test : (t : Bool) → nat_lt n limit ≡ t → (n < limit) ⊎ (n < limit → ⊥)
    by_test true is = inl (grind (arith, nat_tests))
    by_test false is = inr (λ below. grind (arith, nat_tests))

-- no other number has these bytes than the one that they spell
is_spelled : (bytes : List ℕ) (n : ℕ) → n < 2 ^ 64 → decimal n ≡ bytes → spelled bytes ≡ n
is_spelled bytes n small is = ap spelled (sym is) ∙ digits_value-decimal own n small

read_below : (limit : ℕ) → limit ≤ 2 ^ 64 → Reader (λ n. n < limit) decimal
read_below limit wide bytes =
    by_tests (below_or_not (spelled bytes) limit) (same_or_not (decimal (spelled bytes)) bytes)
  where
    by_tests : (spelled bytes < limit) ⊎ (spelled bytes < limit → ⊥)
        → (decimal (spelled bytes) ≡ bytes) ⊎ (decimal (spelled bytes) ≢ bytes)
        → Readable (λ n. n < limit) decimal bytes
    by_tests (inl small) (inl is) = spells (spelled bytes) small is
    by_tests (inl small) (inr other) = spells_none (λ n below is.
        let same = is_spelled bytes n (omega arith) is in other (ap decimal same ∙ is))
    by_tests (inr large) other = spells_none (λ n below is.
        let same = is_spelled bytes n (omega arith) is in large (omega arith))

pub read_small : Reader (λ n. n < 2 ^ 32) decimal
read_small = read_below (2 ^ 32) (omega arith)

pub read_wide : Reader (λ n. n < 2 ^ 64) decimal
read_wide = read_below (2 ^ 64) (omega arith)

-- ---- signed numbers

pub read_int : Reader (λ n. IsTrue (fits_i64 n)) signed_decimal
read_int bytes = by_value (decimal_in bytes) refl
  where
    other_int : (z n : ℤ) → decimal_in bytes ≡ Some z → IsTrue (fits_i64 n) → signed_decimal n ≡ bytes → z ≡ n
    other_int z n is fits text = let found = spelling.read_as n bytes fits text in cc

    by_text : (z : ℤ) → decimal_in bytes ≡ Some z → (signed_decimal z ≡ bytes) ⊎ (signed_decimal z ≢ bytes)
        → Readable (λ n. IsTrue (fits_i64 n)) signed_decimal bytes
    by_text z is (inl text) = spells z (decimal_in-is bytes z is).0 text
    by_text z is (inr other) =
        spells_none (λ n fits text. other (ap signed_decimal (other_int z n is fits text) ∙ text))

    by_value : (o : Option ℤ) → decimal_in bytes ≡ o → Readable (λ n. IsTrue (fits_i64 n)) signed_decimal bytes
    by_value None is = spells_none (λ n fits text. let found = spelling.read_as n bytes fits text in cc)
    by_value (Some z) is = by_text z is (same_or_not (signed_decimal z) bytes)

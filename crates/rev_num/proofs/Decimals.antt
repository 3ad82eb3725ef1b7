-- Decimals: the function is exact for the grammar, agrees with std's `parse`, and reads what is written.
use Rattle.std.proofs.Common.{◌≡◌, zero, suc, ◌≤◌, ◌∙◌, sym, ap, subst, ℕ, ◌<◌, ◌^◌, ◌≢◌, Bool, true, false, inl, inr, ℤ, List, [], ◌∷◌, length, get_or, refl, arith, rules}
use Rattle.std.specs.Prelude.{nat_eq, Option, Some, None, if◌then◌else◌, ◌&&◌, ◌==◌, IfSome, IfNone, Result, Ok, Err, pos, negsuc, neg_ℤ, IsTrue, All}
use Rattle.std.specs.Result.{result_ok}
use Rattle.std.specs.List.{starts_with}
use Rattle.std.specs.Char.{IsAsciiDigit}
use Rattle.std.specs.Str.{all_ascii_digits, IsUtf8, IsAscii}
use Rattle.std.specs.Str.Parse.{ParsesSigned}
use Rattle.std.specs.Int.{w64}
use Rattle.std.specs.Fmt.{decimal, signed_decimal}
use Rattle.std.proofs.lemmas.Fmt.{decimal_nonempty, digits_decimal, digits_value-decimal}
use Rattle.std.proofs.lemmas.Str.{IsUtf8-from_ascii}
use Rattle.std.proofs.lemmas.Str.Parse.{IsNumeralModel, numerals_by_weight, tells_all_ascii_digits, parse_signed_plain, parse_signed_minus}
use Rattle.std.proofs.lemmas.Str.Ascii.{IsAscii-cons, IsAscii-nil}
use Rattle.std.proofs.lemmas.List.Elements.{All-cons, All-head, All-tail, All-nil}
use Rattle.rev_num.specs.Arith.{fits_i64}
use Rattle.rev_num.specs.Decimal.{IsDigits, IsUnsigned, IsDecimal, spelled, is_digits, number_behind, decimal_in}
use Rattle.rev_num.proofs.Options.{none_some, some_eq}

pub own : IsNumeralModel (λ ds. all_ascii_digits ds ≡ true) spelled
own = numerals_by_weight _ tells_all_ascii_digits spelled (search rules)

-- ---- digits

all_digits : (ds : List ℕ) → all_ascii_digits ds ≡ true → All IsAsciiDigit ds
all_digits [] h = All-nil _
all_digits (d ∷ ds) h =
    let parts = tells_all_ascii_digits.parts d ds h in All-cons IsAsciiDigit d ds parts.0 (all_digits ds parts.1)

digits_all : (ds : List ℕ) → All IsAsciiDigit ds → all_ascii_digits ds ≡ true
digits_all [] h = refl
digits_all (d ∷ ds) h =
    tells_all_ascii_digits.more d ds (All-head IsAsciiDigit d ds h) (digits_all ds (All-tail IsAsciiDigit d ds h))

pub digits_tested : (ds : List ℕ) → is_digits ds ≡ true → IsDigits ds
digits_tested [] h = grind arith
digits_tested (d ∷ ds) h = record { some = omega arith; each = all_digits (d ∷ ds) (grind (arith, rules)) }

pub digits_pass : (ds : List ℕ) → IsDigits ds → is_digits ds ≡ true
digits_pass [] h = absurd (omega (arith, h.some))
digits_pass (d ∷ ds) h = let all = digits_all (d ∷ ds) h.each in grind (arith, rules)

-- ---- the function is exact for the grammar

-- a guarded value is there only where both guards hold
pub both_guards : {A : Type 0} (a b : Bool) (z n : A) → (if a && b then Some z else None) ≡ Some n
    → (a ≡ true) × (b ≡ true) × (n ≡ z)
both_guards true true z n h = (refl, refl, sym (some_eq h))
both_guards true false z n h = none_some h
both_guards false b z n h = none_some h

behind_some : (ds : List ℕ) (z n : ℤ) → number_behind ds z ≡ Some n → IsDigits ds × (fits_i64 n ≡ true) × (n ≡ z)
behind_some ds z n h =
    let guards = both_guards (is_digits ds) (fits_i64 z) z n h in
    (digits_tested ds guards.0, ap fits_i64 guards.2 ∙ guards.1, guards.2)

behind_fits : (ds : List ℕ) (z n : ℤ) → IsDigits ds → fits_i64 n ≡ true → n ≡ z → number_behind ds z ≡ Some n
behind_fits ds z n h fits is =
    let fits_z : fits_i64 z ≡ true = ap fits_i64 (sym is) ∙ fits in
    let some : number_behind ds z ≡ Some z = rw (digits_pass ds h, fits_z) in
    some ∙ ap Some (sym is)

-- a minus is no digit
no_minus : (c : ℕ) (cs : List ℕ) → c ≡ 45 → IsDigits (c ∷ cs) → ⊥
no_minus c cs minus h = let digit = All-head IsAsciiDigit c cs h.each in omega (arith, digit, minus)

pub decimal_in-is : (bytes : List ℕ) (n : ℤ) → decimal_in bytes ≡ Some n → (fits_i64 n ≡ true) × IsDecimal bytes n
decimal_in-is [] n h = grind (arith, rules)
decimal_in-is (c ∷ cs) n h = by_sign (c == 45) refl h
  where
    by_sign : (b : Bool) → (c == 45) ≡ b
        → (if b then number_behind cs (neg_ℤ (pos (spelled cs))) else number_behind (c ∷ cs) (pos (spelled (c ∷ cs))))
        ≡ Some n
        → (fits_i64 n ≡ true) × IsDecimal (c ∷ cs) n
    by_sign true minus found =
        let found_is = behind_some cs (neg_ℤ (pos (spelled cs))) n found in (
          found_is.1,
          inr (record { behind = cs; minus = grind (arith, rules); digits = found_is.0; value = found_is.2 }),
        )
    by_sign false plain found =
        let found_is = behind_some (c ∷ cs) (pos (spelled (c ∷ cs))) n found in
        (found_is.1, inl (record { digits = found_is.0; value = found_is.2 }))

unsigned_read : (bytes : List ℕ) (n : ℤ) → fits_i64 n ≡ true → IsUnsigned bytes n → decimal_in bytes ≡ Some n
unsigned_read [] n fits h = absurd (omega (arith, h.digits.some))
unsigned_read (c ∷ cs) n fits h = by_sign (c == 45) refl
  where
    by_sign : (b : Bool) → (c == 45) ≡ b
        → (if b then number_behind cs (neg_ℤ (pos (spelled cs))) else number_behind (c ∷ cs) (pos (spelled (c ∷ cs))))
        ≡ Some n
    by_sign true minus = absurd (no_minus c cs (grind (arith, rules)) h.digits)
    by_sign false plain = behind_fits (c ∷ cs) (pos (spelled (c ∷ cs))) n h.digits fits h.value

pub is-decimal_in : (bytes : List ℕ) (n : ℤ) → fits_i64 n ≡ true → IsDecimal bytes n → decimal_in bytes ≡ Some n
is-decimal_in bytes n fits (inl h) = unsigned_read bytes n fits h
is-decimal_in bytes n fits (inr h) =
    subst (λ b. decimal_in b ≡ Some n) (sym h.minus)
    (behind_fits h.behind (neg_ℤ (pos (spelled h.behind))) n h.digits fits h.value)

-- ---- std's `parse` reads the grammar, with a plus in front beside

-- what a result says of the bytes
abbrev Reads : {E : Type 0} → List ℕ → Result ℤ E → Type 0
Reads bytes (Ok n) = (fits_i64 n ≡ true) × IsDecimal bytes n
Reads bytes (Err e) = (n : ℤ) → fits_i64 n ≡ true → IsDecimal bytes n → ⊥

pub fits_negated : (k : ℕ) → k ≤ 2 ^ 63 → fits_i64 (neg_ℤ (pos k)) ≡ true
fits_negated zero h = refl
fits_negated (suc k) h = grind (arith, rules)

negated_fits : (k : ℕ) → fits_i64 (neg_ℤ (pos k)) ≡ true → k ≤ 2 ^ 63
negated_fits zero h = omega arith
negated_fits (suc k) h = grind (arith, rules)

pub fits_pos : (k : ℕ) → k < 2 ^ 63 → fits_i64 (pos k) ≡ true
fits_pos k h = grind (arith, rules)

pub pos_fits : (k : ℕ) → fits_i64 (pos k) ≡ true → k < 2 ^ 63
pos_fits k h = grind (arith, rules)

digits_from : (ds : List ℕ) → (all_ascii_digits ds ≡ true) → 0 < length ds → IsDigits ds
digits_from ds each some = record { some = some; each = all_digits ds each }

-- a decimal that begins with a minus
behind_minus : (cs : List ℕ) (n : ℤ) → IsDecimal (45 ∷ cs) n → IsDigits cs × (n ≡ neg_ℤ (pos (spelled cs)))
behind_minus cs n (inl d) = absurd (no_minus 45 cs refl d.digits)
behind_minus cs n (inr d) =
    let rest : d.behind ≡ cs = grind (arith, rules, d.minus) in
    (subst IsDigits rest d.digits, d.value ∙ ap (λ ds. neg_ℤ (pos (spelled ds))) rest)

-- a decimal that begins otherwise
with_no_minus : (bytes : List ℕ) (n : ℤ) → get_or bytes 0 0 ≢ 45 → IsDecimal bytes n → IsUnsigned bytes n
with_no_minus bytes n first (inl d) = d
with_no_minus bytes n first (inr d) = absurd (first (ap (λ b. get_or b 0 0) d.minus))

parsed_minus : {E : Type 0} (cs : List ℕ) (r : Result ℤ E) → ParsesSigned w64 10 (45 ∷ cs) r → Reads (45 ∷ cs) r
parsed_minus {E} cs (Ok x) h =
    let is = parse_signed_minus own {E = E} w64 (45 ∷ cs) (Ok x) h refl in (
      ap fits_i64 is.1 ∙ fits_negated (spelled cs) is.0.2,
      inr (record { behind = cs; minus = refl; digits = digits_from cs is.0.0 is.0.1; value = is.1 }),
    )
parsed_minus {E} cs (Err e) h = λ n fits d.
    let parts = behind_minus cs n d in
    parse_signed_minus own {E = E} w64 (45 ∷ cs) (Err e) h refl
    (digits_all cs parts.0.each, parts.0.some, negated_fits (spelled cs) (ap fits_i64 (sym parts.1) ∙ fits))

parsed_plain : {E : Type 0} (bytes : List ℕ) (r : Result ℤ E) → get_or bytes 0 0 ≢ 43 → get_or bytes 0 0 ≢ 45
    → ParsesSigned w64 10 bytes r → Reads bytes r
parsed_plain {E} bytes (Ok x) plus minus h =
    let is = parse_signed_plain own {E = E} w64 bytes (Ok x) h plus minus in (
      ap fits_i64 is.1 ∙ fits_pos (spelled bytes) is.0.2,
      inl (record { digits = digits_from bytes is.0.0 is.0.1; value = is.1 }),
    )
parsed_plain {E} bytes (Err e) plus minus h = λ n fits d.
    let is = with_no_minus bytes n minus d in
    parse_signed_plain own {E = E} w64 bytes (Err e) h plus minus
    (digits_all bytes is.digits.each, is.digits.some, pos_fits (spelled bytes) (ap fits_i64 (sym is.value) ∙ fits))

parsed : {E : Type 0} (bytes : List ℕ) (r : Result ℤ E) → get_or bytes 0 0 ≢ 43 → ParsesSigned w64 10 bytes r
    → Reads bytes r
parsed [] r plus h = parsed_plain [] r plus (omega arith) h
parsed (c ∷ cs) r plus h = by_sign (c == 45) refl
  where
    by_sign : (b : Bool) → (c == 45) ≡ b → Reads (c ∷ cs) r
    by_sign true minus =
        let is : 45 ≡ c = grind (arith, rules) in
        subst (λ k. Reads (k ∷ cs) r) is (parsed_minus cs r (subst (λ k. ParsesSigned w64 10 (k ∷ cs) r) (sym is) h))
    by_sign false other = parsed_plain (c ∷ cs) r plus (grind (arith, rules)) h

-- what reads the bytes is what the function finds
none_unless : (o : Option ℤ) → ((n : ℤ) → o ≡ Some n → ⊥) → o ≡ None
none_unless None h = refl
none_unless (Some n) h = absurd (h n refl)

reads_is : {E : Type 0} (bytes : List ℕ) (r : Result ℤ E) → Reads bytes r → result_ok r ≡ decimal_in bytes
reads_is bytes (Ok n) h = sym (is-decimal_in bytes n h.0 h.1)
reads_is bytes (Err e) h =
    sym (none_unless (decimal_in bytes) (λ n found. let is = decimal_in-is bytes n found in h n is.0 is.1))

pub decimal_in-parses : {E : Type 0} (bytes : List ℕ) (r : Result ℤ E) → get_or bytes 0 0 ≢ 43
    → ParsesSigned w64 10 bytes r → result_ok r ≡ decimal_in bytes
decimal_in-parses bytes r plus h = reads_is bytes r (parsed bytes r plus h)

-- ---- bytes that are no text

digits_ascii : (ds : List ℕ) → all_ascii_digits ds ≡ true → IsAscii ds
digits_ascii [] h = IsAscii-nil
digits_ascii (d ∷ ds) h =
    let parts = tells_all_ascii_digits.parts d ds h in
    IsAscii-cons d ds (omega (arith, parts.0)) (digits_ascii ds parts.1)

decimal_ascii : (bytes : List ℕ) (n : ℤ) → IsDecimal bytes n → IsAscii bytes
decimal_ascii bytes n (inl d) = digits_ascii bytes (digits_all bytes d.digits.each)
decimal_ascii bytes n (inr d) =
    subst IsAscii (sym d.minus)
    (IsAscii-cons 45 d.behind (omega arith) (digits_ascii d.behind (digits_all d.behind d.digits.each)))

pub decimal_in-no_text : (bytes : List ℕ) → ¬ (IsUtf8 bytes) → decimal_in bytes ≡ None
decimal_in-no_text bytes h =
    none_unless (decimal_in bytes)
    (λ n found. h (IsUtf8-from_ascii bytes (decimal_ascii bytes n (decimal_in-is bytes n found).1)))

-- ---- what the answer says of the grammar

pub is_spelled : (bytes : List ℕ) (o : Option ℤ) → o ≡ decimal_in bytes → IfSome o (λ n. IsDecimal bytes n)
is_spelled bytes None is = tt
is_spelled bytes (Some n) is = (decimal_in-is bytes n (sym is)).1

pub is_none : (bytes : List ℕ) (o : Option ℤ) → o ≡ decimal_in bytes
    → IfNone o ((n : ℤ) → IsTrue (fits_i64 n) → IsDecimal bytes n → ⊥)
is_none bytes None is = λ n fits d. grind (arith, rules, is, is-decimal_in bytes n fits d)
is_none bytes (Some n) is = tt

pub plus_first : (bytes : List ℕ) → starts_with nat_eq bytes (43 ∷ []) ≡ false → get_or bytes 0 0 ≢ 43
plus_first [] h = λ plus. omega (arith, plus)
plus_first (c ∷ cs) h = λ plus. grind (arith, rules)

-- ---- what is written is read

decimal_digits : (n : ℕ) → n < 2 ^ 64 → IsDigits (decimal n)
decimal_digits n small = digits_from (decimal n) (digits_decimal own n small) (decimal_nonempty n small)

pub decimal_in-signed_decimal : (n : ℤ) → fits_i64 n ≡ true → decimal_in (signed_decimal n) ≡ Some n
decimal_in-signed_decimal (pos n) fits =
    let small : n < 2 ^ 64 = omega (arith, pos_fits n fits) in
    is-decimal_in (decimal n) (pos n) fits
    (inl (record { digits = decimal_digits n small; value = ap pos (sym (digits_value-decimal own n small)) }))
decimal_in-signed_decimal (negsuc n) fits =
    let small : suc n < 2 ^ 64 = omega (arith, negsuc_fits n fits) in
    is-decimal_in (45 ∷ decimal (suc n)) (negsuc n) fits
    (inr (record {
      behind = decimal (suc n);
      minus = refl;
      digits = decimal_digits (suc n) small;
      value = ap (λ m. neg_ℤ (pos m)) (sym (digits_value-decimal own (suc n) small));
    }))
  where
    negsuc_fits : (m : ℕ) → fits_i64 (negsuc m) ≡ true → m < 2 ^ 63
    negsuc_fits m h = grind (arith, rules)

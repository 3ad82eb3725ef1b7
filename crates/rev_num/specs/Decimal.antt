-- Numbers in decimal.
use Rattle.std.specs.Prelude.{◌≡◌, ℕ, ◌+◌, ◌-◌, ◌*◌, ◌^◌, ◌<◌, Bool, ◌&&◌, ◌⊎◌, ℤ, pos, neg_ℤ, List, [], ◌∷◌, length, All, nat_lt, ◌==◌, if◌then◌else◌, Option, Some, None}
use Rattle.std.specs.Char.{IsAsciiDigit}
use Rattle.std.specs.Str.{all_ascii_digits}
use Rattle.rev_num.specs.Arith.{fits_i64}

-- ---- the grammar: an optional minus and one or more digits

-- one or more digits
pub record IsDigits (ds : List ℕ) : Type 0 where
  pub some : 0 < length ds
  pub each : All IsAsciiDigit ds

-- the number that digits spell, where each digit counts for its power of ten
abbrev pub spelled : List ℕ → ℕ
spelled [] = 0
spelled (d ∷ ds) = (d - 48) * 10 ^ length ds + spelled ds

-- digits without a sign
pub record IsUnsigned (bytes : List ℕ) (n : ℤ) : Type 0 where
  pub digits : IsDigits bytes
  pub value : n ≡ pos (spelled bytes)

-- a minus, then digits
pub record IsNegated (bytes : List ℕ) (n : ℤ) : Type 0 where
  pub behind : List ℕ
  pub minus : bytes ≡ 45 ∷ behind
  pub digits : IsDigits behind
  pub value : n ≡ neg_ℤ (pos (spelled behind))

-- the bytes are a decimal for n
abbrev pub IsDecimal : List ℕ → ℤ → Type 0
IsDecimal bytes n = IsUnsigned bytes n ⊎ IsNegated bytes n

-- ---- the same as a function

abbrev pub is_digits : List ℕ → Bool
is_digits ds = nat_lt 0 (length ds) && all_ascii_digits ds

-- the number, if the bytes are digits and 64 bits hold it
abbrev pub number_behind : List ℕ → ℤ → Option ℤ
number_behind ds n = if is_digits ds && fits_i64 n then Some n else None

-- the number in 64 bits for which the bytes are a decimal
abbrev pub decimal_in : List ℕ → Option ℤ
decimal_in [] = None
decimal_in (c ∷ cs) =
    if c == 45 then number_behind cs (neg_ℤ (pos (spelled cs)))
    else number_behind (c ∷ cs) (pos (spelled (c ∷ cs)))

-- The least bit of a word from a bit on.
--   no_rest      where the word shifted is 0, no bit from there on is 1
--   least_bit    else the least is as many bits on as the shifted word has zeros at its end
use Rattle.std.proofs.Common.{◌≡◌, ◌≢◌, ℕ, ◌+◌, ◌-◌, ◌/◌, ◌%◌, ◌^◌, ◌<◌, ◌≤◌, ap, sym, ◌∙◌, arith, shr-shr, div-le_self}
use Rattle.std.specs.Int.{bit_at, trailing_zeros, w64}
use Rattle.std.proofs.lemmas.Nat.Bits.{bit_at-zero, bit_at-trailing_zeros, bit_at_above}
use mathlib.Core.Logic.{dite}
use native.Mathlib.Decide.{dec_le}
use Rattle.version_map.proofs.Bits.{one_or_zero}

rest_bit : (n from i : ℕ) → bit_at (n / 2 ^ from) i ≡ bit_at n (from + i)
rest_bit n from i = ap (λ (x : ℕ). x % 2) (shr-shr n from i)

-- a bit from there on, as one of the shifted word
of_rest : (n from i : ℕ) → from ≤ i → bit_at n i ≡ bit_at (n / 2 ^ from) (i - from)
of_rest n from i le =
    let e : i ≡ from + (i - from) = omega arith in ap (bit_at n) e ∙ sym (rest_bit n from (i - from))

pub no_rest : (n from : ℕ) → n / 2 ^ from ≡ 0 → (i : ℕ) → from ≤ i → bit_at n i ≡ 0
no_rest n from none i le =
    of_rest n from i le ∙ (ap (λ (x : ℕ). bit_at x (i - from)) none ∙ bit_at-zero (i - from))

pub least_bit : (n from : ℕ) → n < 2 ^ 64 → n / 2 ^ from ≢ 0
    → (from + trailing_zeros w64 (n / 2 ^ from) < 64) × (bit_at n (from + trailing_zeros w64 (n / 2 ^ from)) ≡ 1)
    × ((i : ℕ) → from ≤ i → i < from + trailing_zeros w64 (n / 2 ^ from) → bit_at n i ≡ 0)
least_bit n from fits some =
    let rest : ℕ = n / 2 ^ from in
    let less : rest ≤ n = div-le_self n (2 ^ from) in
    let h = bit_at-trailing_zeros w64 rest (omega arith) (omega arith) in
    let t : ℕ = trailing_zeros w64 rest in
    let set : bit_at n (from + t) ≡ 1 = sym (rest_bit n from t) ∙ h.1 in (
      dite (dec_le 64 (from + t))
          (λ le. absurd (one_or_zero (bit_at n (from + t)) set (bit_at_above n 64 (from + t) fits le)))
          (λ gt. omega arith),
      set,
      λ i lo hi. of_rest n from i lo ∙ h.2 (i - from) (omega arith),
    )

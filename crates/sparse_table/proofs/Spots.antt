-- Where first words, flags and other words lie.
use Rattle.std.proofs.Common.{◌≡◌, ◌≢◌, ℕ, suc, ◌+◌, ◌*◌, ◌/◌, ◌%◌, ◌^◌, ◌<◌, ◌≤◌, sym, ◌∙◌, arith, suc-mul}
use Rattle.std.proofs.lemmas.Nat.{le-div, pow_pos}
use Rattle.std.proofs.Math.Nat.{div-mul-le_self}
use mathlib.Core.Logic.{dite}
use native.Mathlib.Decide.{ℕ_discrete, dec_le}
use Rattle.atomic_table.proofs.Lists.{one_turn}
use Rattle.sparse_table.specs.Parts.{IsPart, IsInner, head_at, total_of}

module _ (words width shift : ℕ) (one : 1 < width) (small : 2 ^ shift ≤ width) where
  spaced : (c d : ℕ) → c % width ≡ 0 → d % width ≡ 0 → c < d → c + width ≤ d
  spaced c d ec ed lt = dite (dec_le (c + width) d) (λ le. le) (λ no. let same : c ≡ d = one_turn c d width
      (omega arith) (let n = no in omega arith) (ec ∙ sym ed) in absurd (omega arith))

  less : (c d : ℕ) → c + width ≤ d → c / 2 ^ shift < d / 2 ^ shift
  less c d le = let k : ℕ = 2 ^ shift in let q : ℕ = c / k in let m = suc-mul q k in
      let l : q * k ≤ c = div-mul-le_self c k in let s : k ≤ width = small in
      let big : suc q * k ≤ d = omega arith in let r : suc q ≤ d / k = le-div (suc q) d k (pow_pos shift) big in
      omega arith

  pub heads_apart : (c d : ℕ) → IsPart words width c → IsPart words width d → head_at words shift c ≡ head_at words
      shift d → c ≡ d
  heads_apart c d pc pd e = dite (ℕ_discrete c d) (λ same. same) (λ ne. dite (dec_le c d)
      (λ le. let l = less c d (spaced c d pc.1 pd.1 (omega arith)) in absurd (omega arith))
      (λ no. let l = less d c (spaced d c pd.1 pc.1 (omega arith)) in absurd (omega arith)))

  pub in_heads : (c : ℕ) → c < words → head_at words shift c + 1 < total_of words shift
  in_heads c lt = let k : ℕ = 2 ^ shift in let l : c / k * k ≤ c = div-mul-le_self c k in
      let r : c / k ≤ words / k = le-div (c / k) words k (pow_pos shift) (omega arith) in omega arith

  pub inner_apart : (c d i : ℕ) → IsPart words width c → IsPart words width d → IsInner width c i → i ≢ d
  inner_apart c d i pc pd in_ e = let l = in_.0 in let h = in_.1 in let s = spaced c d pc.1 pd.1 (omega arith) in
      omega arith

  pub inner_one : (c d i : ℕ) → IsPart words width c → IsPart words width d → IsInner width c i → IsInner width d i
      → c ≡ d
  inner_one c d i pc pd a b = let al = a.0 in let ah = a.1 in let bl = b.0 in let bh = b.1 in dite (ℕ_discrete c d)
      (λ same. same) (λ ne. dite (dec_le c d)
      (λ le. let l = spaced c d pc.1 pd.1 (omega arith) in absurd (omega arith))
      (λ no. let l = spaced d c pd.1 pc.1 (omega arith) in absurd (omega arith)))

  pub inner_in : (c i : ℕ) → words % width ≡ 0 → IsPart words width c → IsInner width c i → i < words
  inner_in c i whole pc in_ = let h = in_.1 in let s = spaced c words pc.1 whole pc.0 in omega arith

  pub part_in : (c : ℕ) → words % width ≡ 0 → IsPart words width c → c + width ≤ words
  part_in c whole pc = spaced c words pc.1 whole pc.0

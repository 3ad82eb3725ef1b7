-- Answers of shift_of: where the width has two of a power, the next power is not above it.
use Rattle.std.proofs.Common.{◌≡◌, ℕ, suc, ◌+◌, ◌*◌, ◌/◌, ◌^◌, ◌<◌, ◌≤◌, sym, ap, ◌∙◌, subst, arith, rules}
use Rattle.std.proofs.lemmas.Nat.{pow_pos}
use Rattle.std.proofs.Math.Nat.{le-div_iff_mul-le, pow-succ'}
use Rattle.sparse_table.proofs.table.shift_of.Goals as goal

pub loop-shift-preserved : goal.loop-shift-preserved
loop-shift-preserved c = let s : ℕ = c.loop-shift.shift in let w : ℕ = c.args.width in
    let many : 8 ≤ w / 2 ^ s = search rules in let two : 2 ≤ w / 2 ^ s = omega arith in
    let small : s < 62 = search rules in
    let le : 2 * 2 ^ s ≤ w = (le-div_iff_mul-le (pow_pos s)).0 two in (
      subst (λ (y : ℕ). y ≤ w) (sym (pow-succ' 2 s) ∙ ap (λ (y : ℕ). 2 ^ y) (let q : suc s ≡ s + 1 = omega arith in
          q)) le,
      omega arith,
    )

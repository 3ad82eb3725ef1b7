-- The locations by what is told of them, one after another.
use Rattle.std.proofs.Common.{◌≡◌, ℕ, suc, ◌+◌, ◌-◌, ◌<◌, ◌≤◌, List, [], ◌∷◌, ap, ◌∙◌, arith}
use Rattle.stated_parts.specs.declared.ends.AloneWrite.{AloneWrite}
use Rattle.stated_parts.specs.Ends.{told_at, behind, told_from}

-- one location more
pub told_more : (n count : ℕ) (ws : List AloneWrite) → n < count
    → told_from n (count - n) ws ≡ told_at n ws ∷ told_from (n + 1) (count - (n + 1)) (behind n ws)
told_more n count ws less =
    let e : count - n ≡ suc (count - (n + 1)) = omega arith in
    let f : suc n ≡ n + 1 = omega arith in
    ap (λ k. told_from n k ws) e ∙ ap (λ m. told_at n ws ∷ told_from m (count - (n + 1)) (behind n ws)) f

-- none is left
pub told_all : (n count : ℕ) (ws : List AloneWrite) → count ≤ n → told_from n (count - n) ws ≡ []
told_all n count ws most = let e : count - n ≡ 0 = omega arith in ap (λ k. told_from n k ws) e

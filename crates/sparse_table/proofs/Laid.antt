-- Words that are put in place of others.
use Rattle.std.proofs.Common.{◌≡◌, ℕ, zero, suc, ◌+◌, ◌-◌, ◌<◌, ◌≤◌, ◌⊎◌, inl, inr, ⊎_elim, List, [], ◌∷◌}
use Rattle.std.proofs.Common.{length, get_or, set, sym, refl, ap, ◌∙◌, arith, length-set, get_or-set_other}
use Rattle.std.proofs.Common.{get_or-set_same}
use Rattle.std.specs.Prelude.{replicate}
use Rattle.std.proofs.lemmas.List.{ext_get_or}
use lib.ListN.{length-replicate}
use Rattle.sparse_table.specs.Words.{laid}

pub laid_else : (xs ns : List ℕ) (from j : ℕ) → (j < from) ⊎ (from + length xs ≤ j) → get_or (laid ns from xs) j 0 ≡
    get_or ns j 0
laid_else [] ns from j why = refl
laid_else (x ∷ xs) ns from j why = laid_else xs (set ns from x) (from + 1) j (⊎_elim (λ l. inl (omega arith))
    (λ l. inr (omega arith)) why)
    ∙ get_or-set_other ns from j x 0 (λ q. ⊎_elim (λ l. omega arith) (λ l. omega arith) why)

pub laid_in : (xs ns : List ℕ) (from k : ℕ) → k < length xs → from + length xs ≤ length ns → get_or (laid ns from xs)
    (from + k) 0 ≡ get_or xs k 0
laid_in [] ns from k lt room = absurd (omega arith)
laid_in (x ∷ xs) ns from zero lt room = laid_else xs (set ns from x) (from + 1) (from + 0) (inl (omega arith))
    ∙ (ap (λ (y : ℕ). get_or (set ns from x) y 0) (let q : from + 0 ≡ from = omega arith in q) ∙ get_or-set_same ns
    from x 0 (omega arith))
laid_in (x ∷ xs) ns from (suc k) lt room = let long = length-set ns from x in
    ap (λ (y : ℕ). get_or (laid (set ns from x) (from + 1) xs) y 0) (let q : from + suc k ≡ from + 1 + k = omega
    arith in q) ∙ laid_in xs (set ns from x) (from + 1) k (omega arith) (omega arith)

pub laid_long : (xs ns : List ℕ) (i : ℕ) → length (laid ns i xs) ≡ length ns
laid_long [] ns i = refl
laid_long (x ∷ xs) ns i = laid_long xs (set ns i x) (i + 1) ∙ length-set ns i x

pub rep_at : (m v k : ℕ) → k < m → get_or (replicate m v) k 0 ≡ v
rep_at zero v k lt = absurd (omega arith)
rep_at (suc m) v zero lt = refl
rep_at (suc m) v (suc k) lt = rep_at m v k (omega arith)

pub laid_same : (m v : ℕ) (ns : List ℕ) (from i : ℕ) → from ≤ i → i < from + m → from + m ≤ length ns → get_or
    (laid ns from (replicate m v)) i 0 ≡ v
laid_same m v ns from i low high room = let k : ℕ = i - from in let long = length-replicate m v in
    ap (λ (y : ℕ). get_or (laid ns from (replicate m v)) y 0) (let q : i ≡ from + k = omega arith in q)
    ∙ (laid_in (replicate m v) ns from k (omega arith) (omega arith) ∙ rep_at m v k (omega arith))

pub laid_apart : (m v : ℕ) (ns : List ℕ) (from j : ℕ) → (j < from) ⊎ (from + m ≤ j) → get_or
    (laid ns from (replicate m v)) j 0 ≡ get_or ns j 0
laid_apart m v ns from j why = let long = length-replicate m v in laid_else (replicate m v) ns from j
    (⊎_elim (λ l. inl l) (λ l. inr (omega arith)) why)

pub laid_more : (m v : ℕ) (ns : List ℕ) (from : ℕ) → laid ns from (replicate (suc m) v) ≡ set
    (laid ns from (replicate m v)) (from + m) v
laid_more zero v ns from = ap (λ (y : ℕ). set ns y v) (let q : from ≡ from + 0 = omega arith in q)
laid_more (suc m) v ns from = laid_more m v (set ns from v) (from + 1) ∙ ap (λ (y : ℕ). set
    (laid ns from (replicate (suc m) v)) y v) (let q : from + 1 + m ≡ from + suc m = omega arith in q)

-- all words are replaced
pub laid_all : (m v w : ℕ) → laid (replicate m w) 0 (replicate m v) ≡ replicate m v
laid_all m v w = let old = length-replicate m w in let new = length-replicate m v in let long = laid_long
    (replicate m v) (replicate m w) 0 in
    ext_get_or 0 (laid (replicate m w) 0 (replicate m v)) (replicate m v) (long ∙ (old ∙ sym new))
    (λ i lt. laid_same m v (replicate m w) 0 i (omega arith) (omega arith) (omega arith) ∙ sym
    (rep_at m v i (omega arith)))

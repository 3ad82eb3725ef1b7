-- Bytes are cut at the first of a byte in one way only.
use Rattle.std.proofs.Common.{◌≡◌, ℕ, List, [], ◌∷◌, ◌++◌, refl}
use Rattle.trace_diagram.specs.Cuts.{IsWithout}

pub append_cancel : {A : Type 0} (xs ys zs : List A) → xs ++ ys ≡ xs ++ zs → ys ≡ zs
append_cancel [] ys zs h = h
append_cancel (x ∷ xs) ys zs h = let tail : xs ++ ys ≡ xs ++ zs = cc in append_cancel xs ys zs tail

-- bytes with the byte in them are not without it
pub not_without : (b : ℕ) (front back : List ℕ) → IsWithout b (front ++ b ∷ back) → ⊥
not_without b [] back h = h.0 refl
not_without b (c ∷ front) back h = not_without b front back h.1

-- one place of the first such byte
pub cut_once : (b : ℕ) (front back front' back' : List ℕ) → IsWithout b front → IsWithout b front'
    → front ++ b ∷ back ≡ front' ++ b ∷ back' → (front ≡ front') × (back ≡ back')
cut_once b [] back [] back' one two h = let tail : back ≡ back' = cc in (refl, tail)
cut_once b [] back (c ∷ front') back' one two h = let head : c ≡ b = cc in absurd (two.0 head)
cut_once b (c ∷ front) back [] back' one two h = let head : c ≡ b = cc in absurd (one.0 head)
cut_once b (c ∷ front) back (d ∷ front') back' one two h =
    let head : c ≡ d = cc in
    let tail : front ++ b ∷ back ≡ front' ++ b ∷ back' = cc in
    let both = cut_once b front back front' back' one.1 two.1 tail in
    let fronts : front ≡ front' = both.0 in
    (λ i. head i ∷ fronts i, both.1)

pub without-append : (b : ℕ) (xs ys : List ℕ) → IsWithout b xs → IsWithout b ys → IsWithout b (xs ++ ys)
without-append b [] ys one two = two
without-append b (x ∷ xs) ys one two = (one.0, without-append b xs ys one.1 two)

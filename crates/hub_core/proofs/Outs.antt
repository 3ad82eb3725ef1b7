-- The list of the slots of a seat that has taken the one slot.
use Rattle.std.proofs.Common.{◌≡◌, ℕ, List, [], ◌∷◌, sym, ap, ◌∙◌}
use Rattle.atomic_table.specs.Table.{rest}

pub head_out : {S : Type 0} (l : List (ℕ × S)) (x : S) → l ≡ (0, x) ∷ [] → l ≡ (0, x) ∷ rest l
head_out l x e = e ∙ ap (λ m. (0, x) ∷ m) (sym (ap rest e))

abbrev second : {S : Type 0} → S → List (ℕ × S) → S
second d [] = d
second d (x ∷ xs) = x.1

pub put_in : {S : Type 0} → {V : Type 0} → {me : V × List (ℕ × S)} {v : V} {l : List (ℕ × S)}
    {x y : S} → me ≡ (v, (0, y) ∷ rest l) → l ≡ (0, x) ∷ [] → me.1 ≡ (0, y) ∷ []
put_in {y = y} e f = ap (λ z. z.1) e ∙ ap (λ k. (0, y) ∷ rest k) f

-- what the seat takes out is what the slot has
pub same_out : {S : Type 0} → (l : List (ℕ × S)) (x y : S) → l ≡ (0, x) ∷ [] → l ≡ (0, y) ∷ rest l → x ≡ y
same_out l x y e f = ap (second x) (sym e ∙ f)

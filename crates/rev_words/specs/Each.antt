-- The values of a list's elements, and of the parts of a text.
use Rattle.std.specs.Prelude.{◌==◌, ℕ, List, [], ◌∷◌, length, nat_le, if◌then◌else◌, Option, Some, None, option_and_then, option_map}
use Rattle.std.specs.List.{slice_split}

-- the values that f gives, if it gives one of each element
abbrev pub each_said : {A B : Type 0} → (A → Option B) → List A → Option (List B)
each_said f [] = Some []
each_said f (x ∷ xs) = option_and_then (λ y. option_map (λ ys. y ∷ ys) (each_said f xs)) (f x)

-- the same of elements that are not too many
abbrev pub few_said : {A B : Type 0} → ℕ → (A → Option B) → List A → Option (List B)
few_said most f xs = if nat_le (length xs) most then each_said f xs else None

-- the same of the parts of a text between its commas; the empty text has none
abbrev pub parts_said : {B : Type 0} → ℕ → (List ℕ → Option B) → List ℕ → Option (List B)
parts_said most f [] = Some []
parts_said most f (c ∷ cs) = few_said most f (slice_split (λ b. b == 44) (c ∷ cs))

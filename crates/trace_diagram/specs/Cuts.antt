-- Bytes that are cut in two at a byte.
use Rattle.std.specs.Prelude.{◌≡◌, ◌≢◌, ℕ, List, ◌∷◌, ◌++◌}
use Rattle.std.specs.List.{AllByRecursion}

-- b is none of the bytes
abbrev pub IsWithout : ℕ → List ℕ → Type 0
IsWithout b bytes = AllByRecursion (λ c. c ≢ b) bytes

-- the front is what stands before the first b, and the back what stands behind it
pub record IsCut (b : ℕ) (bytes front back : List ℕ) : Type 0 where
  pub is : bytes ≡ front ++ b ∷ back
  pub first : IsWithout b front

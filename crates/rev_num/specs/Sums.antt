-- Sums over lists.
--   total f xs    the sum of f over a list
--   is_at n x     1 where x is n, and else 0
--   times n xs    how often a number stands in a list
use Rattle.std.specs.Prelude.{ℕ, ◌+◌, List, [], ◌∷◌, cond, ◌==◌}

abbrev pub total : {A : Type 0} → (A → ℕ) → List A → ℕ
total f [] = 0
total f (x ∷ xs) = f x + total f xs

abbrev pub is_at : ℕ → ℕ → ℕ
is_at n x = cond (x == n) 1 0

abbrev pub times : ℕ → List ℕ → ℕ
times n = total (is_at n)

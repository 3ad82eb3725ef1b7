-- What holds of sums over lists.
use Rattle.std.specs.Prelude.{◌≡◌, ◌≢◌, ℕ, ◌+◌, ◌≤◌, List, ◌++◌, set}
use mathlib.Core.Option as m
use lib.ListN.{get_elem?}
use Rattle.rev_num.specs.Sums.{total}

pub record SumsHold (A : Type 0) : Type 0 where
  -- two lists, one behind the other
  pub append : (f : A → ℕ) (xs ys : List A) → total f (xs ++ ys) ≡ total f xs + total f ys
  -- w in place of v
  pub put : (f : A → ℕ) (xs : List A) (i : ℕ) (v w : A) → get_elem? xs i ≡ m.some v
      → total f (set xs i w) + f v ≡ total f xs + f w
  -- no two parts are more than the whole
  pub two : (f : A → ℕ) (xs : List A) (i j : ℕ) (v w : A) → j ≢ i → get_elem? xs i ≡ m.some v
      → get_elem? xs j ≡ m.some w → f v + f w ≤ total f xs
  -- where all others are 0
  pub only : (f : A → ℕ) (xs : List A) (i : ℕ) (v : A) → get_elem? xs i ≡ m.some v
      → ((j : ℕ) (a : A) → j ≢ i → get_elem? xs j ≡ m.some a → f a ≡ 0) → total f xs ≡ f v

-- The length of a list, and sums over lists.
use Rattle.std.proofs.Common.{◌≡◌, ℕ, zero, suc, ◌+◌, ◌≤◌, List, [], ◌∷◌, ◌++◌, length, refl, sym, ap, arith}
use mathlib.Core.Option.{some, some-injective, some-ne-none}
use lib.ListN.{get_elem?}
use Rattle.hub_core.specs.Counts.{total}
pub use Rattle.rev_num.proofs.Totals.{total_set, total_snoc, total_append, total_one, total_two, total_zero, total_only, is_at_same, is_at_other}

pub many_more : {B : Type 0} → (xs : List B) (y : B) → length (xs ++ y ∷ []) ≡ length xs + 1
many_more [] y = refl
many_more (x ∷ xs) y = let r = many_more xs y in omega arith

module _ {A : Type 0} (f g : A → ℕ) where
  pub total_less : (l : List A) → ((i : ℕ) (a : A) → get_elem? l i ≡ some a → f a ≤ g a) → total f l ≤ total g l
  total_less [] h = omega arith
  total_less (x ∷ xs) h = let a = h zero x refl in let b = total_less xs (λ i. h (suc i)) in omega arith

  -- but for one, which has as much less
  pub total_rest : (l : List A) (i : ℕ) (v : A) → get_elem? l i ≡ some v
      → ((j : ℕ) (a : A) → get_elem? l j ≡ some a → f a ≤ g a) → total f l + g v ≤ total g l + f v
  total_rest [] i v e h = absurd (some-ne-none v (sym e))
  total_rest (x ∷ xs) zero v e h =
      let is : f x ≡ f v = ap f (some-injective x v e) in
      let same : g x ≡ g v = ap g (some-injective x v e) in
      let r = total_less xs (λ j. h (suc j)) in
      omega arith
  total_rest (x ∷ xs) (suc i) v e h =
      let a = h zero x refl in let r = total_rest xs i v e (λ j. h (suc j)) in omega arith

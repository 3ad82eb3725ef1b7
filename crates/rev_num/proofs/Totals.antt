-- Sums over lists.
--   total_set, total_append, total_snoc    how a sum changes with its list
--   total_one, total_two                  no part is more than the whole, and no two are
--   total_zero, total_only                where all parts are 0, or all but one
use Rattle.std.proofs.Common.{◌≡◌, ◌≢◌, ℕ, zero, suc, ◌+◌, ◌≤◌, Bool, cond, List, [], ◌∷◌, ◌++◌, set, sym, refl, ap, arith, eq-eqb, ne_eqb}
use mathlib.Core.Option.{some, some-injective, some-ne-none}
use lib.ListN.{get_elem?}
use Rattle.rev_num.specs.Sums.{total, is_at}

module _ {A : Type 0} (f : A → ℕ) where
  pub total_set : (l : List A) (i : ℕ) (v w : A) → get_elem? l i ≡ some v → total f (set l i w) + f v ≡ total f l + f w
  total_set [] i v w e = absurd (some-ne-none v (sym e))
  total_set (x ∷ xs) zero v w e = let is : f x ≡ f v = ap f (some-injective x v e) in omega arith
  total_set (x ∷ xs) (suc i) v w e = let r = total_set xs i v w e in omega arith

  pub total_snoc : (l : List A) (w : A) → total f (l ++ w ∷ []) ≡ total f l + f w
  total_snoc [] w = omega arith
  total_snoc (x ∷ xs) w = let r = total_snoc xs w in omega arith

  pub total_append : (l k : List A) → total f (l ++ k) ≡ total f l + total f k
  total_append [] k = omega arith
  total_append (x ∷ xs) k = let r = total_append xs k in omega arith

  pub total_one : (l : List A) (i : ℕ) (v : A) → get_elem? l i ≡ some v → f v ≤ total f l
  total_one [] i v e = absurd (some-ne-none v (sym e))
  total_one (x ∷ xs) zero v e = let is : f x ≡ f v = ap f (some-injective x v e) in omega arith
  total_one (x ∷ xs) (suc i) v e = let r = total_one xs i v e in omega arith

  pub total_two : (l : List A) (i j : ℕ) (v w : A) → j ≢ i → get_elem? l i ≡ some v → get_elem? l j ≡ some w
      → f v + f w ≤ total f l
  total_two [] i j v w n e d = absurd (some-ne-none v (sym e))
  total_two (x ∷ xs) zero zero v w n e d = absurd (n refl)
  total_two (x ∷ xs) zero (suc j) v w n e d =
      let is : f x ≡ f v = ap f (some-injective x v e) in let r = total_one xs j w d in omega arith
  total_two (x ∷ xs) (suc i) zero v w n e d =
      let is : f x ≡ f w = ap f (some-injective x w d) in let r = total_one xs i v e in omega arith
  total_two (x ∷ xs) (suc i) (suc j) v w n e d = let r = total_two xs i j v w (λ h. n (ap suc h)) e d in omega arith

  pub total_zero : (l : List A) → ((i : ℕ) (a : A) → get_elem? l i ≡ some a → f a ≡ 0) → total f l ≡ 0
  total_zero [] h = refl
  total_zero (x ∷ xs) h = let a = h zero x refl in let b = total_zero xs (λ i. h (suc i)) in omega arith

  -- where all others are 0
  pub total_only : (l : List A) (i : ℕ) (v : A) → get_elem? l i ≡ some v
      → ((j : ℕ) (a : A) → j ≢ i → get_elem? l j ≡ some a → f a ≡ 0) → total f l ≡ f v
  total_only [] i v e h = absurd (some-ne-none v (sym e))
  total_only (x ∷ xs) zero v e h =
      let is : f x ≡ f v = ap f (some-injective x v e) in
      let z = total_zero xs (λ j a. h (suc j) a (λ q. omega arith)) in
      omega arith
  total_only (x ∷ xs) (suc i) v e h =
      let z : f x ≡ 0 = h zero x (λ q. omega arith) refl in
      let r = total_only xs i v e (λ j a ne. h (suc j) a (λ q. ne (omega arith))) in
      omega arith

pub is_at_same : (k : ℕ) → is_at k k ≡ 1
is_at_same k = let f : Bool → ℕ = λ b. cond b 1 0 in ap f (eq-eqb k k refl)

pub is_at_other : (k p : ℕ) → p ≢ k → is_at k p ≡ 0
is_at_other k p n = let f : Bool → ℕ = λ b. cond b 1 0 in ap f (ne_eqb p k n)

-- What stands in a list by number, also after a write and with more behind.
use Rattle.std.proofs.Common.{◌≡◌, ◌≢◌, ◌⊎◌, inl, inr, ℕ, zero, suc, ◌<◌, ◌≤◌, List, [], ◌∷◌, ◌++◌, length, get_or, Some, None, refl, sym, ap, arith}
use Rattle.revision_machine.specs.Numbered.{at_number, put_number}
use Rattle.revision_machine.proofs.Paths.{some_inj}
pub use Rattle.rev_num.proofs.Options.{none_some}

module _ {A : Type 0} where
  -- ---- a list by number

  pub at_front : (xs ys : List A) (n : ℕ) (x : A) → at_number xs n ≡ Some x → at_number (xs ++ ys) n ≡ Some x
  at_front [] ys n x e = none_some e
  at_front (y ∷ xs) ys zero x e = e
  at_front (y ∷ xs) ys (suc n) x e = at_front xs ys n x e

  -- behind a list stands what comes next
  pub at_length : (xs : List A) (y : A) (ys : List A) → at_number (xs ++ y ∷ ys) (length xs) ≡ Some y
  at_length [] y ys = refl
  at_length (x ∷ xs) y ys = at_length xs y ys

  -- at the end, or before it
  pub at_more : (xs : List A) (y : A) (n : ℕ) (x : A) → at_number (xs ++ y ∷ []) n ≡ Some x
      → (at_number xs n ≡ Some x) ⊎ ((n ≡ length xs) × (x ≡ y))
  at_more [] y zero x e = inr (refl, sym (some_inj e))
  at_more [] y (suc n) x e = none_some e
  at_more (z ∷ xs) y zero x e = inl e
  at_more (z ∷ xs) y (suc n) x e = by (at_more xs y n x e)
    where
      by : (at_number xs n ≡ Some x) ⊎ ((n ≡ length xs) × (x ≡ y))
          → (at_number xs n ≡ Some x) ⊎ ((suc n ≡ suc (length xs)) × (x ≡ y))
      by (inl h) = inl h
      by (inr h) = inr (ap suc h.0, h.1)

  pub at_below : (xs : List A) (n : ℕ) (x : A) → at_number xs n ≡ Some x → n < length xs
  at_below [] n x e = none_some e
  at_below (y ∷ xs) zero x e = omega arith
  at_below (y ∷ xs) (suc n) x e = let h = at_below xs n x e in omega (arith, h)

  pub below_at : (xs : List A) (n : ℕ) → n < length xs → (x : A) × (at_number xs n ≡ Some x)
  below_at [] n h = absurd (omega (arith, h))
  below_at (y ∷ xs) zero h = (y, refl)
  below_at (y ∷ xs) (suc n) h = below_at xs n (omega (arith, h))

  pub at_none : (xs : List A) (n : ℕ) → length xs ≤ n → at_number xs n ≡ None
  at_none [] n h = refl
  at_none (x ∷ xs) zero h = absurd (omega (arith, h))
  at_none (x ∷ xs) (suc n) h = at_none xs n (omega (arith, h))

  -- what is read with a default, where there is something
  pub at_there : (xs : List A) (n : ℕ) (d : A) → n < length xs → at_number xs n ≡ Some (get_or xs n d)
  at_there [] n d h = absurd (omega (arith, h))
  at_there (x ∷ xs) zero d h = refl
  at_there (x ∷ xs) (suc n) d h = at_there xs n d (omega (arith, h))

  -- ---- a write

  pub put_other : (xs : List A) (n m : ℕ) (y : A) → m ≢ n → at_number (put_number xs n y) m ≡ at_number xs m
  put_other [] n m y h = refl
  put_other (x ∷ xs) zero zero y h = absurd (h refl)
  put_other (x ∷ xs) zero (suc m) y h = refl
  put_other (x ∷ xs) (suc n) zero y h = refl
  put_other (x ∷ xs) (suc n) (suc m) y h = put_other xs n m y (λ e. h (ap suc e))

  pub put_here : (xs : List A) (n : ℕ) (x y : A) → at_number xs n ≡ Some x → at_number (put_number xs n y) n ≡ Some y
  put_here [] n x y e = none_some e
  put_here (z ∷ xs) zero x y e = refl
  put_here (z ∷ xs) (suc n) x y e = put_here xs n x y e

  pub put_length : (xs : List A) (n : ℕ) (y : A) → length (put_number xs n y) ≡ length xs
  put_length [] n y = refl
  put_length (x ∷ xs) zero y = refl
  put_length (x ∷ xs) (suc n) y = ap suc (put_length xs n y)

  -- what is found after a write
  pub at_put : (xs : List A) (n : ℕ) (y : A) (m : ℕ) (x : A) → at_number (put_number xs n y) m ≡ Some x
      → (at_number xs m ≡ Some x) ⊎ ((m ≡ n) × (x ≡ y))
  at_put [] n y m x e = inl e
  at_put (z ∷ xs) zero y zero x e = inr (refl, sym (some_inj e))
  at_put (z ∷ xs) zero y (suc m) x e = inl e
  at_put (z ∷ xs) (suc n) y zero x e = inl e
  at_put (z ∷ xs) (suc n) y (suc m) x e = by (at_put xs n y m x e)
    where
      by : (at_number xs m ≡ Some x) ⊎ ((m ≡ n) × (x ≡ y)) → (at_number xs m ≡ Some x) ⊎ ((suc m ≡ suc n) × (x ≡ y))
      by (inl h) = inl h
      by (inr h) = inr (ap suc h.0, h.1)

  -- what stands there already
  pub put_same : (xs : List A) (n : ℕ) (x : A) → at_number xs n ≡ Some x → put_number xs n x ≡ xs
  put_same [] n x e = refl
  put_same (y ∷ xs) zero x e = ap (λ z. z ∷ xs) (sym (some_inj e))
  put_same (y ∷ xs) (suc n) x e = ap (λ z. y ∷ z) (put_same xs n x e)

  -- writes at one place
  pub put_twice : (xs : List A) (n : ℕ) (x y : A) → put_number (put_number xs n x) n y ≡ put_number xs n y
  put_twice [] n x y = refl
  put_twice (z ∷ xs) zero x y = refl
  put_twice (z ∷ xs) (suc n) x y = ap (λ k. z ∷ k) (put_twice xs n x y)

  -- writes at two places
  pub put_both : (xs : List A) (n m : ℕ) (x y : A) → n ≢ m
      → put_number (put_number xs n x) m y ≡ put_number (put_number xs m y) n x
  put_both [] n m x y h = refl
  put_both (z ∷ xs) zero zero x y h = absurd (h refl)
  put_both (z ∷ xs) zero (suc m) x y h = refl
  put_both (z ∷ xs) (suc n) zero x y h = refl
  put_both (z ∷ xs) (suc n) (suc m) x y h = ap (λ k. z ∷ k) (put_both xs n m x y (λ e. h (ap suc e)))

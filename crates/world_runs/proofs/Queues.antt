-- Lists of those that wait.
use Rattle.std.proofs.Common.{◌≡◌, ◌≢◌, ◌⊎◌, inl, inr, ◌∙◌, ℕ, zero, suc, ◌+◌, ◌<◌, ◌≤◌, true, List, [], ◌∷◌, ◌++◌, length, take, get_or, set, Option, Some, None, refl, ap, subst, arith}
use Rattle.std.proofs.lemmas.Option.{get_or_from_slice_get}
use Rattle.std.specs.Prelude.{slice_get}
use Rattle.world_runs.specs.Heap.{has}
use Rattle.world_runs.proofs.Heaps.{has_first, has_later, has_none, has_parts}

module _ {A : Type 0} where
  pub front : (xs ys : List A) (n : ℕ) (x : A) → slice_get xs n ≡ Some x → slice_get (xs ++ ys) n ≡ Some x
  front [] ys n x e = absurd (let z : ◌≡◌ {A = Option A} None (Some x) = e in cc)
  front (y ∷ xs) ys zero x e = e
  front (y ∷ xs) ys (suc n) x e = front xs ys n x e

  pub set_here : (xs : List A) (n : ℕ) (y : A) → n < length xs → slice_get (set xs n y) n ≡ Some y
  set_here [] n y h = absurd (omega (arith, h))
  set_here (x ∷ xs) zero y h = refl
  set_here (x ∷ xs) (suc n) y h = set_here xs n y (omega (arith, h))

  pub set_other : (xs : List A) (n k : ℕ) (y : A) → k ≢ n → slice_get (set xs n y) k ≡ slice_get xs k
  set_other [] n k y h = refl
  set_other (x ∷ xs) zero zero y h = absurd (h refl)
  set_other (x ∷ xs) zero (suc k) y h = refl
  set_other (x ∷ xs) (suc n) zero y h = refl
  set_other (x ∷ xs) (suc n) (suc k) y h = set_other xs n k y (λ e. h (ap suc e))

  -- what an index gives
  pub found : (xs : List A) (n : ℕ) (x y : A) → y ≡ get_or xs n y → slice_get xs n ≡ Some x → y ≡ x
  found xs n x y e f = e ∙ get_or_from_slice_get xs n x y f

pub has_front : (xs ys : List ℕ) (n : ℕ) → has xs n ≡ true → has (xs ++ ys) n ≡ true
has_front [] ys n e = absurd (has_none n e)
has_front (x ∷ xs) ys n e = by (has_parts x xs n e) (λ h. has_front xs ys n h)
  where
    by : (x ≡ n) ⊎ (has xs n ≡ true) → (has xs n ≡ true → has (xs ++ ys) n ≡ true) → has (x ∷ (xs ++ ys)) n ≡ true
    by (inl is) later = has_first x (xs ++ ys) n is
    by (inr h) later = has_later x (xs ++ ys) n (later h)

pub has_end : (xs : List ℕ) (n : ℕ) → has (xs ++ n ∷ []) n ≡ true
has_end [] n = has_first n [] n refl
has_end (x ∷ xs) n = has_later x (xs ++ n ∷ []) n (has_end xs n)

-- one more of the first
pub has_more : (xs : List ℕ) (at n : ℕ) → at < length xs → has (take (at + 1) xs) n ≡ true
    → (get_or xs at 0 ≡ n) ⊎ (has (take at xs) n ≡ true)
has_more xs at n less e =
    by xs at less (let z : at + 1 ≡ suc at = omega arith in subst (λ k. has (take k xs) n ≡ true) z e)
  where
    by : (xs : List ℕ) (at : ℕ) → at < length xs → has (take (suc at) xs) n ≡ true
        → (get_or xs at 0 ≡ n) ⊎ (has (take at xs) n ≡ true)
    by [] at less e = absurd (omega (arith, less))
    by (x ∷ xs) zero less e = first (has_parts x [] n e)
      where
        first : (x ≡ n) ⊎ (has [] n ≡ true) → (x ≡ n) ⊎ (has [] n ≡ true)
        first h = h
    by (x ∷ xs) (suc at) less e = later (has_parts x (take (suc at) xs) n e) (λ h. by xs at (omega (arith, less)) h)
      where
        later : (x ≡ n) ⊎ (has (take (suc at) xs) n ≡ true)
            → (has (take (suc at) xs) n ≡ true → (get_or xs at 0 ≡ n) ⊎ (has (take at xs) n ≡ true))
            → (get_or xs at 0 ≡ n) ⊎ (has (x ∷ take at xs) n ≡ true)
        later (inl is) rec = inr (has_first x (take at xs) n is)
        later (inr h) rec = again (rec h)
          where
            again : (get_or xs at 0 ≡ n) ⊎ (has (take at xs) n ≡ true)
                → (get_or xs at 0 ≡ n) ⊎ (has (x ∷ take at xs) n ≡ true)
            again (inl is) = inl is
            again (inr h) = inr (has_later x (take at xs) n h)

pub has_all : (xs : List ℕ) (at n : ℕ) → length xs ≤ at → has xs n ≡ true → has (take at xs) n ≡ true
has_all [] at n h e = absurd (has_none n e)
has_all (x ∷ xs) zero n h e = absurd (omega (arith, h))
has_all (x ∷ xs) (suc at) n h e = by (has_parts x xs n e) (λ k. has_all xs at n (omega (arith, h)) k)
  where
    by : (x ≡ n) ⊎ (has xs n ≡ true) → (has xs n ≡ true → has (take at xs) n ≡ true) → has (x ∷ take at xs) n ≡ true
    by (inl is) later = has_first x (take at xs) n is
    by (inr k) later = has_later x (take at xs) n (later k)

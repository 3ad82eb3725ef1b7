-- Numbers in lists and heaps.
use Rattle.std.proofs.Common.{◌≡◌, ◌∙◌, ◌⊎◌, inl, inr, ℕ, ◌-◌, ◌<◌, ◌≤◌, ◌^◌, true, nat_eq, List, [], ◌∷◌, map, All, sym, subst, arith, true≢false, eq-eqb}
use Rattle.std.proofs.lemmas.Bool.{or_cases, or_left, or_right}
use Rattle.std.proofs.lemmas.Bool.Decides.{nat_tests}
use Rattle.std.proofs.lemmas.List.Elements.{All-head, All-tail}
use Rattle.std.proofs.lemmas.List.Sorted.{list_any-IsPermutation, IsPermutation-map, le_from_greatest}
use Rattle.std.specs.BinaryHeap.{IsUpperBound}
use Rattle.std.specs.List.Sorted.{IsPermutation}
use Rattle.std.specs.Ordering.{nat_cmp}
use Rattle.world_runs.specs.Heap.{above, has}

pub has_first : (x : ℕ) (xs : List ℕ) (n : ℕ) → x ≡ n → has (x ∷ xs) n ≡ true
has_first x xs n e = or_left (nat_eq x n) (has xs n) (eq-eqb x n e)

pub has_later : (x : ℕ) (xs : List ℕ) (n : ℕ) → has xs n ≡ true → has (x ∷ xs) n ≡ true
has_later x xs n e = or_right (nat_eq x n) (has xs n) e

pub has_parts : (x : ℕ) (xs : List ℕ) (n : ℕ) → has (x ∷ xs) n ≡ true → (x ≡ n) ⊎ (has xs n ≡ true)
has_parts x xs n e = by (or_cases (nat_eq x n) (has xs n) e)
  where
    by : (nat_eq x n ≡ true) ⊎ (has xs n ≡ true) → (x ≡ n) ⊎ (has xs n ≡ true)
    by (inl h) = inl (grind (arith, nat_tests, h))
    by (inr h) = inr h

pub has_none : (n : ℕ) → has [] n ≡ true → ⊥
has_none n e = true≢false (sym e)

pub has_permuted : (xs ys : List ℕ) (n : ℕ) → IsPermutation xs ys → has xs n ≡ true → has ys n ≡ true
has_permuted xs ys n p e = sym (list_any-IsPermutation (λ x. nat_eq x n) xs ys p) ∙ e

has_most : (x : ℕ) (xs : List ℕ) (n : ℕ) → All (λ y. y ≤ x) xs → has xs n ≡ true → n ≤ x
has_most x [] n h e = absurd (has_none n e)
has_most x (y ∷ xs) n h e = by (has_parts y xs n e) (λ there. has_most x xs n (All-tail (λ z. z ≤ x) y xs h) there)
  where
    by : (y ≡ n) ⊎ (has xs n ≡ true) → (has xs n ≡ true → n ≤ x) → n ≤ x
    by (inl is) later = subst (λ z. z ≤ x) is (All-head (λ z. z ≤ x) y xs h)
    by (inr there) later = later there

-- what is least comes first
pub least_first : (x : ℕ) (xs : List ℕ) (n : ℕ) → IsUpperBound nat_cmp x xs → n < 2 ^ 32 → has xs (above n) ≡ true
    → 4294967295 - x ≤ n
least_first x xs n h less e =
    let m : above n ≤ x = has_most x xs (above n) (le_from_greatest x xs h) e in omega (arith, m, less)

pub taken_or_left : (x : ℕ) (xs ys : List ℕ) (n : ℕ) → IsPermutation xs (x ∷ ys) → n < 2 ^ 32 → has xs (above n) ≡ true
    → (n ≡ 4294967295 - x) ⊎ (has ys (above n) ≡ true)
taken_or_left x xs ys n p less e = by (has_parts x ys (above n) (has_permuted xs (x ∷ ys) (above n) p e))
  where
    by : (x ≡ above n) ⊎ (has ys (above n) ≡ true) → (n ≡ 4294967295 - x) ⊎ (has ys (above n) ≡ true)
    by (inl is) = inl (omega (arith, is, less))
    by (inr there) = inr there

-- one number more, and one less
pub one_more : (n : ℕ) (xs ys : List ℕ) → n < 2 ^ 32 → IsPermutation ((4294967295 - n) ∷ xs) ys
    → IsPermutation (n ∷ map above xs) (map above ys)
one_more n xs ys less p =
    let back : 4294967295 - (4294967295 - n) ≡ n = omega (arith, less) in
    subst (λ x. IsPermutation (x ∷ map above xs) (map above ys)) back
    (IsPermutation-map above ((4294967295 - n) ∷ xs) ys p)

pub one_less : (x : ℕ) (xs ys : List ℕ) → IsPermutation xs (x ∷ ys)
    → IsPermutation (map above xs) ((4294967295 - x) ∷ map above ys)
one_less x xs ys p = IsPermutation-map above xs (x ∷ ys) p

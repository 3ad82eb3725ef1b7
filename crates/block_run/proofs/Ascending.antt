-- What a memory lists as written stands in ascending order.
--   last_or_before   an entry of a list with one more is that one, or stands in the list
--   below            of the first n locations, each is less than n
--   ascends          and they ascend
use Rattle.std.proofs.Common.{◌≡◌, ◌⊎◌, inl, inr, ℕ, zero, suc, ◌<◌, List, [], ◌∷◌, ◌++◌, length, Option, Some, None, refl, sym, ap, subst, arith, append-nil}
use Rattle.std.specs.Prelude.{slice_get}
use Rattle.code_soundness.proofs.Lists.{none_some, some_eq, some_within}
use Rattle.version_map.specs.declared.end.Written.{Written}
use Rattle.version_map.specs.Ascending.{IsAscending}
use Rattle.block_run.specs.Remembering.{written_below, written_there}

abbrev one_at : (l word root : ℕ) → Written
one_at l word root = record { location = l; value = word; root = root }

last_or_before : (xs : List Written) (x : Written) (i : ℕ) (v : Written) → slice_get (xs ++ x ∷ []) i ≡ Some v
    → (slice_get xs i ≡ Some v) ⊎ ((i ≡ length xs) × (x ≡ v))
last_or_before [] x zero v e = inr (refl, some_eq e)
last_or_before [] x (suc i) v e = absurd (none_some e)
last_or_before (y ∷ ys) x zero v e = inl e
last_or_before (y ∷ ys) x (suc i) v e = by (last_or_before ys x i v e)
  where
    by : (slice_get ys i ≡ Some v) ⊎ ((i ≡ length ys) × (x ≡ v))
        → (slice_get ys i ≡ Some v) ⊎ ((suc i ≡ suc (length ys)) × (x ≡ v))
    by (inl there) = inl there
    by (inr last) = inr (ap suc last.0, last.1)

module _ (seen : ℕ → ℕ) (root : ℕ → Option ℕ) where
  below : (n i : ℕ) (v : Written) → slice_get (written_below seen root n) i ≡ Some v → v.location < n
  below zero i v e = absurd (none_some e)
  below (suc n) i v e = by (root n) e (λ is. below n i v is)
    where
      by : (o : Option ℕ) → slice_get (written_below seen root n ++ written_there n (seen n) o) i ≡ Some v
          → (slice_get (written_below seen root n) i ≡ Some v → v.location < n) → v.location < suc n
      by None e rec =
          let is = subst (λ xs. slice_get xs i ≡ Some v) (append-nil (written_below seen root n)) e in
          let lt = rec is in omega (arith, lt)
      by (Some r) e rec = split (last_or_before (written_below seen root n) (one_at n (seen n) r) i v e)
        where
          split : (slice_get (written_below seen root n) i ≡ Some v)
              ⊎ ((i ≡ length (written_below seen root n)) × (one_at n (seen n) r ≡ v)) → v.location < suc n
          split (inl is) = let lt = rec is in omega (arith, lt)
          split (inr last) = let same = ap (λ (w : Written). w.location) last.1 in omega (arith, same)

  pub ascends : (n : ℕ) → IsAscending (written_below seen root n)
  ascends zero = λ i j v w lt ei. absurd (none_some ei)
  ascends (suc n) = by (root n) (ascends n)
    where
      by : (o : Option ℕ) → IsAscending (written_below seen root n)
          → IsAscending (written_below seen root n ++ written_there n (seen n) o)
      by None rec = subst IsAscending (sym (append-nil (written_below seen root n))) rec
      by (Some r) rec = λ i j v w lt ei ej.
          split i j v w lt (last_or_before (written_below seen root n) (one_at n (seen n) r) i v ei)
          (last_or_before (written_below seen root n) (one_at n (seen n) r) j w ej)
        where
          split : (i j : ℕ) (v w : Written) → i < j
              → (slice_get (written_below seen root n) i ≡ Some v)
              ⊎ ((i ≡ length (written_below seen root n)) × (one_at n (seen n) r ≡ v))
              → (slice_get (written_below seen root n) j ≡ Some w)
              ⊎ ((j ≡ length (written_below seen root n)) × (one_at n (seen n) r ≡ w))
              → v.location < w.location
          split i j v w lt (inl a) (inl b) = rec i j v w lt a b
          split i j v w lt (inl a) (inr b) =
              let less = below n i v a in
              let same = ap (λ (u : Written). u.location) b.1 in omega (arith, less, same)
          split i j v w lt (inr a) (inl b) =
              let inside = some_within (written_below seen root n) j w b in
              let last = a.0 in absurd (omega (arith, lt, inside, last))
          split i j v w lt (inr a) (inr b) =
              let one = a.0 in
              let two = b.0 in absurd (omega (arith, lt, one, two))

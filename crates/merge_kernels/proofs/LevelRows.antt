-- Locations in a row that have one choice, or none at all.
--   like_row     eight locations that are alike have the choice of the first of them
--   part_alike   some of those that are alike are alike
--   more_alike   those before others that are alike, and have what these have, are alike with them
--   level_first  at first no row is told of
--   level_more   and then one row more
use Rattle.std.proofs.Common.{◌≡◌, ◌∙◌, ap, sym, refl, subst, ℕ, zero, suc, ◌+◌, ◌-◌, ◌<◌, ◌≤◌, ◌*◌, ◌⊎◌, inl, inr, Bool, true, false, ◌&&◌, nat_eq, nat_lt, set, replicate, List, [], ◌∷◌, length, take, drop, slice_get, Option, Some, None, arith}
use Rattle.std.proofs.lemmas.Bool.Decides.{nat_tests}
use Rattle.merge_kernels.specs.Plans.{the_choice, choice_at, is_choice, have, row_choice, AreLike, AreLevel}
use Rattle.merge_kernels.proofs.RowChoices.{taken, dropped, long, one_choice}

both : (p q : Bool) → p ≡ true → q ≡ true → p && q ≡ true
both true true h k = refl
both true false h k = k
both false q h k = h

same_yes : (n : ℕ) → nat_eq n n ≡ true
same_yes n = grind (arith, nat_tests)

have_from : (n : ℕ) (cs : List (Option ℕ)) → ((k : ℕ) → k < length cs → the_choice (slice_get cs k) ≡ Some n)
    → have n cs ≡ true
have_from n [] h = refl
have_from n (c ∷ cs) h =
    both (is_choice n c) (have n cs) (ap (is_choice n) (h 0 (omega arith)) ∙ same_yes n)
    (have_from n cs (λ k less. h (suc k) (omega (arith, less))))

pub like_row : (choices : List (Option ℕ)) (first n : ℕ) → choice_at choices first ≡ Some n
    → AreLike choices first 8 → row_choice choices first ≡ Some n
like_row choices first n some alike =
    let all : have n (take 8 (drop first choices)) ≡ true =
    have_from n (take 8 (drop first choices)) (λ k h.
    let below : k < 8 = omega (arith, h, long 8 first choices alike.0) in
    ap the_choice (taken 8 k (drop first choices) below ∙ dropped first k choices) ∙ (alike.1 k below ∙ some)) in
    sym (one_choice choices first n true alike.0 some (sym all))

there : (choices : List (Option ℕ)) (start n i : ℕ) → AreLike choices start n → start ≤ i → i < start + n
    → choice_at choices i ≡ choice_at choices start
there choices start n i alike low high =
    let e : start + (i - start) ≡ i = omega (arith, low) in
    ap (choice_at choices) (sym e) ∙ alike.1 (i - start) (omega (arith, low, high))

pub part_alike : (choices : List (Option ℕ)) (start n first m : ℕ) → AreLike choices start n → start ≤ first
    → first + m ≤ start + n → 0 < m → AreLike choices first m
part_alike choices start n first m alike low high some = (
  omega (arith, alike.0, high),
  λ k h.
      there choices start n (first + k) alike (omega (arith, low)) (omega (arith, high, h))
      ∙ sym (there choices start n first alike low (omega (arith, high, some))),
)

-- a row before alike ones that have what its first has
pub more_alike : (choices : List (Option ℕ)) (start m n : ℕ) → AreLike choices start m → AreLike choices (start + m) n
    → choice_at choices start ≡ choice_at choices (start + m) → AreLike choices start (n + m)
more_alike choices start m n one rest same = (omega (arith, rest.0), λ k h. by k (nat_lt k m) refl h)
  where
    by : (k : ℕ) (b : Bool) → nat_lt k m ≡ b → k < n + m → choice_at choices (start + k) ≡ choice_at choices start
    by k true low h = one.1 k (grind (arith, nat_tests, low))
    by k false high h =
        let past : m ≤ k = grind (arith, nat_tests, high) in
        let e : start + m + (k - m) ≡ start + k = omega (arith, past) in
        ap (choice_at choices) (sym e) ∙ (rest.1 (k - m) (omega (arith, past, h)) ∙ sym same)

-- ---- what is told of rows

or_zero : Option ℕ → ℕ
or_zero (Some n) = n
or_zero None = 0

no_rows : (k row n : ℕ) → slice_get (replicate k 0) row ≡ Some n → n ≡ 0
unfolding or_zero
no_rows zero row n e = sym (ap or_zero e)
no_rows (suc k) zero n e = sym (ap or_zero e)
no_rows (suc k) (suc row) n e = no_rows k row n e

pub level_first : (k : ℕ) (choices : List (Option ℕ)) → AreLevel (replicate k 0) choices
level_first k choices row n e some = let none = no_rows k row n e in absurd (omega (arith, none, some))

next : (i row : ℕ) (P Q : Type 0) → ((row ≡ i) × P) ⊎ Q → ((suc row ≡ suc i) × P) ⊎ Q
next i row P Q (inl p) = inl (ap suc p.0, p.1)
next i row P Q (inr q) = inr q

put : (told : List ℕ) (i m row n : ℕ) → slice_get (set told i m) row ≡ Some n
    → ((row ≡ i) × (m ≡ n)) ⊎ (slice_get told row ≡ Some n)
unfolding or_zero
put [] i m row n e = inr e
put (t ∷ ts) zero m zero n e = inl (refl, ap or_zero e)
put (t ∷ ts) zero m (suc row) n e = inr e
put (t ∷ ts) (suc i) m zero n e = inr e
put (t ∷ ts) (suc i) m (suc row) n e = next i row _ _ (put ts i m row n e)

pub level_more : (told : List ℕ) (choices : List (Option ℕ)) (i m : ℕ) → AreLevel told choices
    → (0 < m → AreLike choices (64 * i) m) → AreLevel (set told i m) choices
level_more told choices i m level one row n e some = by (put told i m row n e)
  where
    by : ((row ≡ i) × (m ≡ n)) ⊎ (slice_get told row ≡ Some n) → AreLike choices (64 * row) n
    by (inl p) =
        subst (λ r. AreLike choices (64 * r) n) (sym p.0)
        (subst (AreLike choices (64 * i)) p.1 (one (subst (λ k. 0 < k) (sym p.1) some)))
    by (inr told) = level row n told some

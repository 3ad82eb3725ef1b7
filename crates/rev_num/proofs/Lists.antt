-- Places of lists, and truths, for the crates above.
use Rattle.std.proofs.Common.{◌≡◌, ◌≢◌, ◌∙◌, ℕ, zero, suc, ◌+◌, ◌<◌, Bool, true, false, ◌&&◌, ◌||◌, List, [], ◌∷◌, ◌++◌, length, drop, Some, refl, ap, arith, get_or, sym, true≢false}
use Rattle.std.specs.Prelude.{slice_get, slice_set}
use Rattle.std.specs.List.{list_all}
use Rattle.std.proofs.lemmas.List.{drop_more}
use Rattle.rev_num.proofs.Options.{none_some}

-- a list from a place on, by what stands there
pub all_more : {A : Type 0} (f : A → Bool) (xs : List A) (n : ℕ) (d : A) → n < length xs → f (get_or xs n d) ≡ true
    → list_all f (drop n xs) ≡ list_all f (drop (n + 1) xs)
all_more f xs n d h e = ap (list_all f) (drop_more xs n d h) ∙ ap (λ y. y && list_all f (drop (n + 1) xs)) e

pub all_none : {A : Type 0} (f : A → Bool) (xs : List A) (n : ℕ) (d : A) → n < length xs → f (get_or xs n d) ≡ false
    → list_all f (drop n xs) ≡ false
all_none f xs n d h e = ap (list_all f) (drop_more xs n d h) ∙ ap (λ y. y && list_all f (drop (n + 1) xs)) e

-- what is appended changes nothing at a place
pub get_append : {A : Type 0} (xs ys : List A) (n : ℕ) → n < length xs → slice_get (xs ++ ys) n ≡ slice_get xs n
get_append [] ys n h = absurd (omega (arith, h))
get_append (x ∷ xs) ys zero h = refl
get_append (x ∷ xs) ys (suc n) h = get_append xs ys n (omega (arith, h))

pub get_append_left : {A : Type 0} (xs ys : List A) (n : ℕ) (x : A) → slice_get xs n ≡ Some x
    → slice_get (xs ++ ys) n ≡ Some x
get_append_left [] ys n x h = absurd (none_some h)
get_append_left (y ∷ xs) ys zero x h = h
get_append_left (y ∷ xs) ys (suc n) x h = get_append_left xs ys n x h

-- what stands at a place within
pub within_some : {A : Type 0} (xs : List A) (n : ℕ) → n < length xs → (x : A) × (slice_get xs n ≡ Some x)
within_some [] n h = absurd (omega (arith, h))
within_some (y ∷ xs) zero h = (y, refl)
within_some (y ∷ xs) (suc n) h = within_some xs n (omega (arith, h))

-- what is set stands there, and changes nothing elsewhere
pub get_set : {A : Type 0} (xs : List A) (n : ℕ) (x : A) → n < length xs → slice_get (slice_set xs n x) n ≡ Some x
get_set [] n x h = absurd (omega (arith, h))
get_set (z ∷ xs) zero x h = refl
get_set (z ∷ xs) (suc n) x h = get_set xs n x (omega (arith, h))

pub get_set_other : {A : Type 0} (xs : List A) (m n : ℕ) (x : A) → m ≢ n
    → slice_get (slice_set xs n x) m ≡ slice_get xs m
get_set_other [] m n x d = refl
get_set_other (z ∷ xs) zero zero x d = absurd (d refl)
get_set_other (z ∷ xs) zero (suc n) x d = refl
get_set_other (z ∷ xs) (suc m) zero x d = refl
get_set_other (z ∷ xs) (suc m) (suc n) x d = get_set_other xs m n x (λ e. d (ap suc e))

-- of two that both hold
pub and_left : (a b : Bool) → a && b ≡ true → a ≡ true
and_left true b h = refl
and_left false b h = h

pub and_right : (a b : Bool) → a && b ≡ true → b ≡ true
and_right true b h = h
and_right false b h = absurd (true≢false (sym h))

-- of two of which one holds
pub or_true : (a : Bool) → (a || true) ≡ true
or_true true = refl
or_true false = refl

-- what can't hold
pub false_no : {A : Type 0} → false ≡ true → A
false_no h = absurd (true≢false (sym h))

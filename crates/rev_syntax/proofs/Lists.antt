-- Lists of bytes and of kinds: how far a test passes, and what a search finds.
use Rattle.std.proofs.Common.{◌≡◌, ℕ, suc, ◌+◌, ◌≤◌, Bool, true, false, not, ◌&&◌, ◌||◌, List, [], ◌∷◌, ◌++◌, length, take, drop, refl, sym, arith, nat_eq, eq-eqb}
use Rattle.std.specs.Prelude.{Some, None, cond}
use Rattle.std.specs.List.{list_all, list_any, prefix_len, find}
use Rattle.std.specs.Cmp.Lexicographic.{pointwise}
use Rattle.std.proofs.lemmas.Bool.{or_right}
use Rattle.std.proofs.lemmas.Bool.Decides.{nat_tests}

pub both : (a b : Bool) → (a && b) ≡ true → (a ≡ true) × (b ≡ true)
both true b h = (refl, h)
both false b h = absurd (cc)

pub also : (a b : Bool) → a ≡ true → b ≡ true → (a && b) ≡ true
also true b h i = i
also false b h i = absurd (cc)

pub off : (b : Bool) → not b ≡ true → b ≡ false
off true h = sym h
off false h = refl

pub on : (b : Bool) → b ≡ false → not b ≡ true
on true h = sym h
on false h = refl

pub neither : (a b : Bool) → (a || b) ≡ false → (a ≡ false) × (b ≡ false)
neither true b h = absurd (cc)
neither false b h = (refl, h)

pub same-number : (a b : ℕ) → nat_eq a b ≡ true → a ≡ b
same-number a b h = grind (arith, nat_tests)

-- whether the first element passes
abbrev pub first_passes : {X : Type 0} → (X → Bool) → List X → Bool
first_passes p [] = false
first_passes p (x ∷ xs) = p x

-- the elements from the front on that pass
pub passed-all : {X : Type 0} (p : X → Bool) (xs : List X) → list_all p (take (prefix_len p xs) xs) ≡ true
passed-all p [] = refl
passed-all {X} p (x ∷ xs) =
    elim (p x) as (λ b. p x ≡ b → list_all p (take (cond b (1 + prefix_len p xs) 0) (x ∷ xs)) ≡ true) [
      | true ↦ λ e. let o : 1 + prefix_len p xs ≡ suc (prefix_len p xs) = omega arith in rw (o, e) (passed-all p xs)
      | false ↦ λ e. refl
    ] refl

pub passed-stops : {X : Type 0} (p : X → Bool) (xs : List X) → first_passes p (drop (prefix_len p xs) xs) ≡ false
passed-stops p [] = refl
passed-stops {X} p (x ∷ xs) =
    elim (p x) as (λ b. p x ≡ b → first_passes p (drop (cond b (1 + prefix_len p xs) 0) (x ∷ xs)) ≡ false) [
      | true ↦ λ e. let o : 1 + prefix_len p xs ≡ suc (prefix_len p xs) = omega arith in rw o (passed-stops p xs)
      | false ↦ λ e. e
    ] refl

-- what passes goes no further than the elements from the front on that pass
pub within-prefix : {X : Type 0} (p : X → Bool) (xs ys : List X) → list_all p xs ≡ true
    → length xs ≤ prefix_len p (xs ++ ys)
within-prefix p [] ys h = omega arith
within-prefix p (x ∷ xs) ys h =
    let b = both (p x) (list_all p xs) h in let r = within-prefix p xs ys b.1 in rw b.0 (omega arith)

pub exact-prefix : {X : Type 0} (p : X → Bool) (xs ys : List X) → list_all p xs ≡ true → first_passes p ys ≡ false
    → prefix_len p (xs ++ ys) ≡ length xs
exact-prefix p [] [] h s = refl
exact-prefix p [] (y ∷ ys) h s = rw s refl
exact-prefix p (x ∷ xs) ys h s =
    let b = both (p x) (list_all p xs) h in let r = exact-prefix p xs ys b.1 s in rw b.0 (omega arith)

pub find-passes : {X : Type 0} (p : X → Bool) (xs : List X) (x : X) → find p xs ≡ Some x → p x ≡ true
find-passes p [] x h = absurd (cc)
find-passes {X} p (y ∷ ys) x h =
    elim (p y) as (λ b. p y ≡ b → cond b (Some y) (find p ys) ≡ Some x → p x ≡ true) [
      | true ↦ λ e s. cc
      | false ↦ λ e s. find-passes p ys x s
    ] refl h

-- what each element passes is passed by the one that is found
pub find-both : {X : Type 0} (q p : X → Bool) (xs : List X) (x : X) → list_all q xs ≡ true → find p xs ≡ Some x
    → q x ≡ true
find-both q p [] x a h = absurd (cc)
find-both {X} q p (y ∷ ys) x a h =
    let k = both (q y) (list_all q ys) a in
    elim (p y) as (λ b. cond b (Some y) (find p ys) ≡ Some x → q x ≡ true) [
      | true ↦ λ s. let e : y ≡ x = cc in rw e at k.0
      | false ↦ λ s. find-both q p ys x k.1 s
    ] h

pub find-none : {X : Type 0} (p : X → Bool) (xs : List X) → find p xs ≡ None → list_any p xs ≡ false
find-none p [] h = refl
find-none {X} p (y ∷ ys) h =
    elim (p y) as (λ b. cond b (Some y) (find p ys) ≡ None → (b || list_any p ys) ≡ false) [
      | true ↦ λ s. absurd (cc)
      | false ↦ λ s. find-none p ys s
    ] h

pub find-no : {X : Type 0} (p : X → Bool) (xs : List X) → list_any p xs ≡ false → find p xs ≡ None
find-no p [] h = refl
find-no p (y ∷ ys) h = let k = neither (p y) (list_any p ys) h in rw k.0 (find-no p ys k.1)

-- some element passes, and it passes also what each element passes
pub any-both : {X : Type 0} (q p : X → Bool) (xs : List X) → list_all q xs ≡ true → list_any p xs ≡ true
    → (x : X) × (p x ≡ true) × (q x ≡ true)
any-both q p [] a h = absurd (cc)
any-both {X} q p (y ∷ ys) a h =
    let k = both (q y) (list_all q ys) a in
    elim (p y) as (λ b. p y ≡ b → (b || list_any p ys) ≡ true → (x : X) × (p x ≡ true) × (q x ≡ true)) [
      | true ↦ λ e s. (y, e, k.0)
      | false ↦ λ e s. any-both q p ys k.1 s
    ] refl h

-- where one test passes only what another passes
pub any-map : {X : Type 0} (p q : X → Bool) (xs : List X) → ((x : X) → p x ≡ true → q x ≡ true) → list_any p xs ≡ true
    → list_any q xs ≡ true
any-map p q [] f h = h
any-map {X} p q (y ∷ ys) f h =
    elim (p y) as (λ b. p y ≡ b → (b || list_any p ys) ≡ true → (q y || list_any q ys) ≡ true) [
      | true ↦ λ e s. rw (f y e) refl
      | false ↦ λ e s. or_right (q y) (list_any q ys) (any-map p q ys f s)
    ] refl h

pub same-self : (w : List ℕ) → pointwise nat_eq w w ≡ true
same-self [] = refl
same-self (x ∷ xs) = also (nat_eq x x) (pointwise nat_eq xs xs) (eq-eqb x x refl) (same-self xs)

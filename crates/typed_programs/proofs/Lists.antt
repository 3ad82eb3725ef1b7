-- Lists and their elements, tests and names.
use Rattle.std.proofs.Common.{◌≡◌, ◌∙◌, ◌≢◌, ℕ, ◌⊎◌, inl, inr, Bool, true, false, cond, if◌then◌else◌, nat_eq, Option, Some, None, is_some, List, [], ◌∷◌, ◌++◌, refl, sym, ap, arith, true≢false}
use Rattle.std.proofs.lemmas.Bool.Decides.{nat_tests}
use Rattle.std.specs.Cmp.Lexicographic.{same_text, other_text}
use Rattle.rev_syntax.proofs.Lists.{same-self}
use Rattle.name_tables.specs.Names.{Name, same}
use Rattle.name_tables.specs.Table.{Table, find, added}
use Rattle.name_tables.proofs.Tables.{or_else, find-added}
pub use Rattle.std.proofs.lemmas.Bool.{and_parts}
pub use Rattle.rev_syntax.proofs.Lists.{same-number as equal}

-- ---- lists with no element

pub parts : {A : Type 0} (xs ys : List A) → xs ++ ys ≡ [] → (xs ≡ []) × (ys ≡ [])
parts [] ys h = (refl, h)
parts (x ∷ xs) ys h = absurd (let e : x ∷ (xs ++ ys) ≡ [] = h in cc)

pub whole : {A : Type 0} (xs ys : List A) → xs ≡ [] → ys ≡ [] → xs ++ ys ≡ []
whole xs ys p q = λ i. p i ++ q i

-- ---- tests

-- a test that finds nothing
pub held : {A : Type 0} (x : Bool) (f : A) → cond x [] (f ∷ []) ≡ [] → x ≡ true
held true f h = refl
held false f h = absurd (let e : f ∷ [] ≡ [] = h in cc)

pub failed : {A : Type 0} (x : Bool) (f : A) → cond x (f ∷ []) [] ≡ [] → x ≡ false
failed false f h = refl
failed true f h = absurd (let e : f ∷ [] ≡ [] = h in cc)

pub passes : {A : Type 0} (x : Bool) (f : A) → x ≡ true → cond x [] (f ∷ []) ≡ []
passes true f h = refl
passes false f h = absurd (true≢false (sym h))

pub stops : {A : Type 0} (x : Bool) (f : A) → x ≡ false → cond x (f ∷ []) [] ≡ []
stops false f h = refl
stops true f h = absurd (true≢false h)

pub not_found : {A B : Type 0} (o : Option B) (f : A) → o ≡ None → cond (is_some o) (f ∷ []) [] ≡ []
not_found o f h = stops (is_some o) f (ap is_some h)

pub unequal : (a b : ℕ) → nat_eq a b ≡ false → a ≢ b
unequal a b h = grind (arith, nat_tests)

pub is_equal : (a b : ℕ) → a ≡ b → nat_eq a b ≡ true
is_equal a b h = grind (arith, nat_tests)

pub is_unequal : (a b : ℕ) → a ≢ b → nat_eq a b ≡ false
is_unequal a b h = grind (arith, nat_tests)

-- ---- names in tables

-- names that are equal have the same bytes
same_names : (a b : Name) → a ≡ b → same a b ≡ true
same_names a b e = ap (λ x. same a x) (sym e) ∙ same-self a

module _ {V : Type 0} where
  unknown_by : (o : Option V) (b : Bool) (x : V) → or_else o (if b then Some x else None) ≡ None
      → (o ≡ None) × (b ≡ false)
  unknown_by None false x h = (refl, refl)
  unknown_by None true x h = cc
  unknown_by (Some y) b x h = cc

  -- a name that a table with a further entry does not know
  pub unknown_added : (name w : Name) (x : V) (t : Table V) → find name (added t w x) ≡ None
      → (find name t ≡ None) × (name ≢ w)
  unknown_added name w x t h =
      let both = unknown_by (find name t) (same name w) x (sym (find-added name w x t) ∙ h) in
      (both.0, other_text name w (sym both.1))

  pub added_unknown : (name w : Name) (x : V) (t : Table V) → find name t ≡ None → name ≢ w
      → find name (added t w x) ≡ None
  added_unknown name w x t h n = find-added name w x t ∙ by (same name w) refl
    where
      by : (b : Bool) → b ≡ same name w → or_else (find name t) (if b then Some x else None) ≡ None
      by true e = absurd (n (same_text name w e))
      by false e = ap (λ o. or_else o None) h

  known_by : (o : Option V) (b : Bool) (x : V) → is_some (or_else o (if b then Some x else None)) ≡ true
      → (is_some o ≡ true) ⊎ (b ≡ true)
  known_by (Some y) b x h = inl refl
  known_by None true x h = inr refl
  known_by None false x h = absurd (true≢false (sym h))

  -- a name that a table with a further entry knows
  pub known_added : (name w : Name) (x : V) (t : Table V) → is_some (find name (added t w x)) ≡ true
      → (is_some (find name t) ≡ true) ⊎ (name ≡ w)
  known_added name w x t h =
      elim (known_by (find name t) (same name w) x (sym (ap is_some (find-added name w x t)) ∙ h)) [
        | inl k ↦ inl k
        | inr e ↦ inr (same_text name w (sym e))
      ]

  more_by : (o : Option V) (b : Bool) (x : V) → (is_some o ≡ true) ⊎ (b ≡ true)
      → is_some (or_else o (if b then Some x else None)) ≡ true
  more_by (Some y) b x h = refl
  more_by None true x h = refl
  more_by None false x (inl h) = h
  more_by None false x (inr h) = h

  pub known_more : (name w : Name) (x : V) (t : Table V) → (is_some (find name t) ≡ true) ⊎ (name ≡ w)
      → is_some (find name (added t w x)) ≡ true
  known_more name w x t (inl h) = ap is_some (find-added name w x t) ∙ more_by (find name t) (same name w) x (inl h)
  known_more name w x t (inr e) =
      ap is_some (find-added name w x t) ∙ more_by (find name t) (same name w) x (inr (same_names name w e))

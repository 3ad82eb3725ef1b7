-- The first of faults, over the parts of a list.
use Rattle.std.proofs.Common.{◌≡◌, ◌∙◌, ℕ, ◌<◌, ◌≤◌, ◌⊎◌, inl, inr, Bool, true, false, cond, Option, Some, None, List, [], ◌∷◌, ◌++◌, refl, sym, ap, subst, arith, true≢false}
use Rattle.std.proofs.lemmas.Bool.Decides.{nat_tests}
use Rattle.typed_programs.specs.Least.{is_less, precedes, first_of, least, IsBefore, IsFirst, Among}

less_less : (a b c p q r : ℕ) → is_less c r b q ≡ true → is_less b q a p ≡ true → is_less c r a p ≡ true
less_less a b c p q r h k = grind (arith, nat_tests)

not_not : (a b c p q r : ℕ) → is_less b q a p ≡ false → is_less c r b q ≡ false → is_less c r a p ≡ false
not_not a b c p q r h k = grind (arith, nat_tests)

is_before : (a b p q : ℕ) → is_less b q a p ≡ false → (a < b) ⊎ ((a ≡ b) × (p ≤ q))
is_before a b p q h = grind (arith, nat_tests)

is_after : (a b p q : ℕ) → is_less b q a p ≡ true → (b < a) ⊎ ((b ≡ a) × (q ≤ p))
is_after a b p q h = grind (arith, nat_tests)

module _ {F : Type 0} (place rank : F → ℕ) where
  three : (a b c : F) (p q r : Bool) → precedes place rank b a ≡ p → precedes place rank c b ≡ q
      → precedes place rank c a ≡ r
      → first_of place rank (first_of place rank (Some a) (Some b)) (Some c)
      ≡ first_of place rank (Some a) (first_of place rank (Some b) (Some c))
  three a b c true true true hp hq hr = rw (hp, hq, hr) refl
  three a b c true true false hp hq hr =
      absurd (true≢false (sym (less_less (place a) (place b) (place c) (rank a) (rank b) (rank c) hq hp) ∙ hr))
  three a b c true false r hp hq hr = rw (hp, hq, hp) refl
  three a b c false true true hp hq hr = rw (hp, hq, hr) refl
  three a b c false true false hp hq hr = rw (hp, hq, hr) refl
  three a b c false false true hp hq hr =
      absurd (true≢false (sym hr ∙ not_not (place a) (place b) (place c) (rank a) (rank b) (rank c) hp hq))
  three a b c false false false hp hq hr = rw (hp, hq, hr, hp) refl

  -- the first of three faults
  pub first_of-assoc : (x y z : Option F)
      → first_of place rank (first_of place rank x y) z ≡ first_of place rank x (first_of place rank y z)
  first_of-assoc None y z = refl
  first_of-assoc (Some a) None z = refl
  first_of-assoc (Some a) (Some b) None = refl
  first_of-assoc (Some a) (Some b) (Some c) = three a b c _ _ _ refl refl refl

  -- the first fault of a list is that of its parts
  pub least-append : (xs ys : List F)
      → least place rank (xs ++ ys) ≡ first_of place rank (least place rank xs) (least place rank ys)
  least-append [] ys = refl
  least-append (x ∷ xs) ys =
      ap (λ r. first_of place rank (Some x) r) (least-append xs ys)
      ∙ sym (first_of-assoc (Some x) (least place rank xs) (least place rank ys))

  IsBefore-refl : (f : F) → IsBefore place rank f f
  IsBefore-refl f = inr (refl, omega arith)

  IsBefore-trans : (f g h : F) → IsBefore place rank f g → IsBefore place rank g h → IsBefore place rank f h
  IsBefore-trans f g h (inl a) (inl b) = inl (omega arith)
  IsBefore-trans f g h (inl a) (inr b) = let e = b.0 in inl (omega arith)
  IsBefore-trans f g h (inr a) (inl b) = let e = a.0 in inl (omega arith)
  IsBefore-trans f g h (inr a) (inr b) = inr (a.0 ∙ b.0, (let e = a.1 in let d = b.1 in omega arith))

  -- what the first of a list's faults is
  abbrev pub IsLeastOf : List F → Option F → Type 0
  IsLeastOf fs None = fs ≡ []
  IsLeastOf fs (Some f) = IsFirst place rank fs f

  least_of_two : (f : F) (fs : List F) (g : F) (b : Bool) → precedes place rank g f ≡ b → IsFirst place rank fs g
      → IsFirst place rank (f ∷ fs) (cond b g f)
  least_of_two f fs g true h k = record {
    among = inr k.among;
    first = λ x m. elim m [
      | inl e ↦ subst (λ y. IsBefore place rank g y) e (is_after (place f) (place g) (rank f) (rank g) h)
      | inr r ↦ k.first x r
    ];
  }
  least_of_two f fs g false h k = record {
    among = inl refl;
    first = λ x m. elim m [
      | inl e ↦ subst (λ y. IsBefore place rank f y) e (IsBefore-refl f)
      | inr r ↦ IsBefore-trans f g x (is_before (place f) (place g) (rank f) (rank g) h) (k.first x r)
    ];
  }

  more : (f : F) (fs : List F) (o : Option F) → IsLeastOf fs o → IsLeastOf (f ∷ fs) (first_of place rank (Some f) o)
  more f fs None h = record {
    among = inl refl;
    first = λ x m. elim m [
      | inl e ↦ subst (λ y. IsBefore place rank f y) e (IsBefore-refl f)
      | inr r ↦ absurd (subst (λ l. Among l x) h r)
    ];
  }
  more f fs (Some g) h = least_of_two f fs g _ refl h

  pub least-IsLeastOf : (fs : List F) → IsLeastOf fs (least place rank fs)
  least-IsLeastOf [] = refl
  least-IsLeastOf (f ∷ fs) = more f fs (least place rank fs) (least-IsLeastOf fs)

  pub first_is : (fs : List F) (f : F) → least place rank fs ≡ Some f → IsFirst place rank fs f
  first_is fs f h = subst (λ o. IsLeastOf fs o) h (least-IsLeastOf fs)

  pub none_is : (fs : List F) → least place rank fs ≡ None → fs ≡ []
  none_is fs h = subst (λ o. IsLeastOf fs o) h (least-IsLeastOf fs)

pub ruleset leasts = (first_of-assoc, least-append)

-- Whether something is found at or before a place and a number.
use Rattle.std.proofs.Common.{◌≡◌, ◌∙◌, ℕ, Bool, true, false, cond, ◌&&◌, ◌||◌, Some, None, List, [], ◌∷◌, ◌++◌, refl, sym, ap, arith}
use Rattle.std.proofs.lemmas.Bool.Decides.{nat_tests}
use Rattle.typed_programs.specs.Least.{is_less, precedes}
use Rattle.affine_check.specs.declared.fault.AffineFault.{AffineFault}
use Rattle.affine_check.specs.Faults.{place, rank}
use Rattle.affine_check.specs.Walk.{Fault, both, when}

-- ---- tests

pub or-assoc : (a b c : Bool) → ((a || b) || c) ≡ (a || (b || c))
or-assoc true b c = refl
or-assoc false b c = refl

pub or-false : (a : Bool) → (a || false) ≡ a
or-false true = refl
or-false false = refl

-- ---- bounds

le_first : (P R a p b q : ℕ) → is_less b q a p ≡ true
    → cond (is_less P R b q) false true ≡ (cond (is_less P R a p) false true || cond (is_less P R b q) false true)
le_first P R a p b q h = grind (arith, nat_tests)

le_second : (P R a p b q : ℕ) → is_less b q a p ≡ false
    → cond (is_less P R a p) false true ≡ (cond (is_less P R a p) false true || cond (is_less P R b q) false true)
le_second P R a p b q h = grind (arith, nat_tests)

module _ (last_place last_rank : ℕ) where
  -- the fault is not behind the bound
  abbrev pub upto : AffineFault → Bool
  upto f = cond (is_less last_place last_rank (place f) (rank f)) false true

  abbrev pub meets : Fault → Bool
  meets None = false
  meets (Some f) = upto f

  -- one of these places, as a fault of this kind
  abbrev pub any : (ℕ → AffineFault) → List ℕ → Bool
  any make [] = false
  any make (p ∷ ps) = upto (make p) || any make ps

  pub any-append : (make : ℕ → AffineFault) (xs ys : List ℕ) → any make (xs ++ ys) ≡ (any make xs || any make ys)
  any-append make [] ys = refl
  any-append make (x ∷ xs) ys =
      ap (λ b. upto (make x) || b) (any-append make xs ys) ∙ sym (or-assoc (upto (make x)) (any make xs) (any make ys))

  meets_two : (f g : AffineFault) (d : Bool) → precedes place rank g f ≡ d
      → meets (Some (cond d g f)) ≡ (upto f || upto g)
  meets_two f g true h = le_first last_place last_rank (place f) (rank f) (place g) (rank g) h
  meets_two f g false h = le_second last_place last_rank (place f) (rank f) (place g) (rank g) h

  pub meets-both : (a b : Fault) → meets (both a b) ≡ (meets a || meets b)
  meets-both None b = refl
  meets-both (Some f) None = sym (or-false (upto f))
  meets-both (Some f) (Some g) = meets_two f g _ refl

  pub meets-when : (b : Bool) (f : AffineFault) → meets (when b f) ≡ (b && upto f)
  meets-when true f = refl
  meets-when false f = refl

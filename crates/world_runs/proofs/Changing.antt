-- A note that is written in its place.
use Rattle.std.proofs.Common.{◌≡◌, ◌≢◌, ◌∙◌, ℕ, zero, suc, ◌<◌, List, [], ◌∷◌, length, get_or, Some, refl, sym, ap, subst}
use Rattle.std.specs.Prelude.{slice_set}
use Rattle.revision_machine.specs.Numbered.{at_number}
use Rattle.revision_machine.proofs.Lists.{at_there}
use Rattle.code_world.proofs.Rows.{none_some, some_same}
use Rattle.world_runs.specs.declared.noted.Noted.{Noted}
use Rattle.world_runs.specs.Changes.{IsChanged}

module _ {A : Type 0} where
  set_length : (xs : List A) (n : ℕ) (y : A) → length (slice_set xs n y) ≡ length xs
  set_length [] n y = refl
  set_length (x ∷ xs) zero y = refl
  set_length (x ∷ xs) (suc n) y = ap suc (set_length xs n y)

  set_other : (xs : List A) (n m : ℕ) (y : A) → m ≢ n → at_number (slice_set xs n y) m ≡ at_number xs m
  set_other [] n m y h = refl
  set_other (x ∷ xs) zero zero y h = absurd (h refl)
  set_other (x ∷ xs) zero (suc m) y h = refl
  set_other (x ∷ xs) (suc n) zero y h = refl
  set_other (x ∷ xs) (suc n) (suc m) y h = set_other xs n m y (λ e. h (ap suc e))

  set_here : (xs : List A) (n : ℕ) (y z : A) → at_number (slice_set xs n y) n ≡ Some z → z ≡ y
  set_here [] n y z e = none_some e
  set_here (x ∷ xs) zero y z e = sym (some_same e)
  set_here (x ∷ xs) (suc n) y z e = set_here xs n y z e

pub changed : (n : ℕ) (Changes : Noted → Noted → Type 0) (old : List Noted) (now y : Noted) → n < length old
    → now ≡ get_or old n now → Changes now y → IsChanged n Changes old (slice_set old n y)
changed n Changes old now y less is h = record {
  count = set_length old n y;
  others = λ m other. set_other old n m y other;
  own = λ z e. (
    now,
    at_there old n now less ∙ ap (λ k. Some k) (sym is),
    subst (Changes now) (sym (set_here old n y z e)) h,
  );
}

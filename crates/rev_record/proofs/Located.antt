-- Kinds of locations, by the variables.
use Rattle.std.proofs.Common.{◌≡◌, ◌∙◌, ℕ, zero, suc, ◌+◌, ◌-◌, ◌<◌, ◌≤◌, List, ◌∷◌, ◌++◌, length, drop, get_or, replicate, Some, refl, sym, ap, arith}
use Rattle.std.proofs.lemmas.List.{drop_all, drop_more}
use Rattle.std.specs.Prelude.{slice_get}
use Rattle.rev_num.specs.declared.value.ValueKind.TheVariants as k
use Rattle.rev_code.specs.declared.code.CodeVar.{CodeVar}
use Rattle.code_rules.specs.Shapes.{kind_or_int}
use Rattle.code_soundness.specs.Typed.{location_kinds}
use Rattle.rev_record.specs.Words.{kind_at}

copies_here : {A : Type 0} (n place : ℕ) (x : A) (xs : List A) → place < n
    → slice_get (replicate n x ++ xs) place ≡ Some x
copies_here zero place x xs less = absurd (omega (arith, less))
copies_here (suc n) zero x xs less = refl
copies_here (suc n) (suc place) x xs less = copies_here n place x xs (omega (arith, less))

copies_behind : {A : Type 0} (n place : ℕ) (x : A) (xs : List A) → n ≤ place
    → slice_get (replicate n x ++ xs) place ≡ slice_get xs (place - n)
copies_behind zero place x xs less = ap (slice_get xs) (let z : place ≡ place - 0 = omega arith in z)
copies_behind (suc n) zero x xs less = absurd (omega (arith, less))
copies_behind (suc n) (suc place) x xs less =
    copies_behind n place x xs (omega (arith, less))
    ∙ ap (slice_get xs) (let z : place - n ≡ suc place - suc n = omega arith in z)

module _ (vars : List CodeVar) (n : ℕ) (v : CodeVar) (place : ℕ) (less : n < length vars)
    (is : v ≡ get_or vars n v) where
  first : drop n vars ≡ v ∷ drop (n + 1) vars
  first = drop_more vars n v less ∙ ap (λ u. u ∷ drop (n + 1) vars) (sym is)

  pub kind_here : place < v.cells → kind_at (drop n vars) place ≡ v.kind
  kind_here inside =
      ap (λ vs. kind_at vs place) first
      ∙ ap kind_or_int (copies_here v.cells place v.kind (location_kinds (drop (n + 1) vars)) inside)

  pub kind_later : v.cells ≤ place → kind_at (drop n vars) place ≡ kind_at (drop (n + 1) vars) (place - v.cells)
  kind_later behind =
      ap (λ vs. kind_at vs place) first
      ∙ ap kind_or_int (copies_behind v.cells place v.kind (location_kinds (drop (n + 1) vars)) behind)

pub kind_none : (vars : List CodeVar) (n place : ℕ) → length vars ≤ n → kind_at (drop n vars) place ≡ k.Int
kind_none vars n place few = ap (λ vs. kind_at vs place) (drop_all n vars few)

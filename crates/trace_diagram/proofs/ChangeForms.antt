-- The line of a write is cut in one way.
use Rattle.std.proofs.Common.{◌≡◌, ◌≢◌, ◌∙◌, sym, subst, ℕ, suc, ◌<◌, ◌^◌, true, false, ℤ, pos, negsuc, List, ◌∷◌, ◌++◌, refl, arith, rules}
use Rattle.std.specs.Prelude.{codes, Some, None}
use Rattle.std.specs.Fmt.{signed_decimal}
use Rattle.std.specs.Int.{IsInRange}
use Rattle.rev_num.specs.Arith.{fits_i64}
use Rattle.rev_num.specs.declared.value.Value.{Value}
use Rattle.rev_num.specs.declared.value.Value.TheVariants as value
use Rattle.trace_diagram.specs.Cuts.{IsCut, IsWithout}
use Rattle.trace_diagram.specs.Lines.{FitsChange, FitsValue, change_text, value_text}
use Rattle.trace_diagram.specs.declared.diagram.Change.{Change}
use Rattle.trace_diagram.proofs.Cutting.{append_cancel, cut_once, not_without}
use Rattle.trace_diagram.proofs.Forks.{decimal_without}
use Rattle.trace_diagram.proofs.LineForms.{path_without}
use Rattle.trace_diagram.proofs.PlaceForms.{place_without}

-- ---- values

pub fits_pos : (n : ℕ) → fits_i64 (pos n) ≡ true → n < 2 ^ 64
fits_pos n h = grind (arith, rules)

fits_negsuc : (n : ℕ) → fits_i64 (negsuc n) ≡ true → suc n < 2 ^ 64
fits_negsuc n h = grind (arith, rules)

signed_without : (b : ℕ) → (IsInRange 48 57 b → ⊥) → b ≢ 45 → (n : ℤ) → fits_i64 n ≡ true
    → IsWithout b (signed_decimal n)
signed_without b digit minus (pos n) fit = decimal_without b n digit (fits_pos n fit)
signed_without b digit minus (negsuc n) fit =
    (λ same. minus (sym same), decimal_without b (suc n) digit (fits_negsuc n fit))

-- a byte that is no digit, no dot, no minus, no `@` and no letter
pub record NoValueByte (b : ℕ) : Type 0 where
  pub digit : IsInRange 48 57 b → ⊥
  pub dot : b ≢ 46
  pub minus : b ≢ 45
  pub sign : b ≢ 64
  pub main : IsWithout b (codes "main")
  pub yes : IsWithout b (codes "true")
  pub nay : IsWithout b (codes "false")
  pub none : IsWithout b (codes "none")

pub value_without : (b : ℕ) → NoValueByte b → (x : Value) → FitsValue x → IsWithout b (value_text x)
value_without b h (value.Int n) fit = signed_without b h.digit h.minus n fit
value_without b h (value.Bool true) fit = h.yes
value_without b h (value.Bool false) fit = h.nay
value_without b h (value.Rev None) fit = h.none
value_without b h (value.Rev (Some path)) fit =
    (λ same. h.sign (sym same), path_without b h.digit h.dot h.main path fit)

pub space : NoValueByte 32
space = record {
  digit = λ d. omega (arith, d);
  dot = λ e. omega arith;
  minus = λ e. omega arith;
  sign = λ e. omega arith;
  main = (λ e. omega arith, (λ e. omega arith, (λ e. omega arith, (λ e. omega arith, tt))));
  yes = (λ e. omega arith, (λ e. omega arith, (λ e. omega arith, (λ e. omega arith, tt))));
  nay = (λ e. omega arith, (λ e. omega arith, (λ e. omega arith, (λ e. omega arith, (λ e. omega arith, tt)))));
  none = (λ e. omega arith, (λ e. omega arith, (λ e. omega arith, (λ e. omega arith, tt))));
}

-- ---- a write

abbrev pub values_text : Change → List ℕ
values_text x = value_text x.value ++ 32 ∷ (codes "root " ++ value_text x.root)

pub record PlaceParts (x : Change) (place values : List ℕ) : Type 0 where
  pub place_is : x.place ≡ place
  pub values_are : values_text x ≡ values

behind_word : (line rest : List ℕ) (x : Change) → line ≡ codes "write " ++ rest → change_text x ≡ line
    → x.place ++ 32 ∷ values_text x ≡ rest
behind_word line rest x at is = append_cancel (codes "write ") _ _ (is ∙ at)

pub no_space : (x : Change) → FitsChange x → IsWithout 32 x.place
no_space x fit = place_without 32 refl (λ e. omega arith) (λ e. omega arith) x.place fit.place

pub place_parts : (line rest place values : List ℕ) → line ≡ codes "write " ++ rest → IsCut 32 rest place values
    → (x : Change) → FitsChange x → change_text x ≡ line → PlaceParts x place values
place_parts line rest place values at cut x fit is =
    let both =
    cut_once 32 x.place (values_text x) place values (no_space x fit) cut.first
    (behind_word line rest x at is ∙ cut.is) in
    record { place_is = both.0; values_are = both.1 }

pub no_place_end : (line rest : List ℕ) → line ≡ codes "write " ++ rest → IsWithout 32 rest → (x : Change)
    → FitsChange x → change_text x ≡ line → ⊥
no_place_end line rest at none x fit is =
    not_without 32 x.place (values_text x) (subst (IsWithout 32) (sym (behind_word line rest x at is)) none)

pub record ValueParts (x : Change) (front back : List ℕ) : Type 0 where
  pub value_is : value_text x.value ≡ front
  pub root_is : codes "root " ++ value_text x.root ≡ back

pub value_parts : (x : Change) (values front back : List ℕ) → FitsChange x → values_text x ≡ values
    → IsCut 32 values front back → ValueParts x front back
value_parts x values front back fit is cut =
    let both =
    cut_once 32 (value_text x.value) (codes "root " ++ value_text x.root) front back
    (value_without 32 space x.value fit.value) cut.first (is ∙ cut.is) in
    record { value_is = both.0; root_is = both.1 }

pub no_value_end : (x : Change) (values : List ℕ) → values_text x ≡ values → IsWithout 32 values → ⊥
no_value_end x values is none =
    not_without 32 (value_text x.value) (codes "root " ++ value_text x.root) (subst (IsWithout 32) (sym is) none)

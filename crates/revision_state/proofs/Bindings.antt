-- Locals by their names.
use Rattle.std.proofs.Common.{◌≡◌, ℕ, zero, suc, ◌+◌, ◌<◌, ◌≤◌, Bool, true, false, cond, ltb, not, [], ◌∷◌, ◌++◌, length, get_or, set, Some, None, refl, sym, ap, ◌∙◌, arith}
use Rattle.std.specs.List.{position, position_or_len}
use Rattle.std.proofs.lemmas.List.Quantifiers.{position-Some}
use Rattle.std.proofs.lemmas.Bool.Decides.{nat_tests}
use Rattle.rev_num.specs.declared.value.Value.{Value}
use Rattle.name_tables.specs.Names.{Name, same}
use Rattle.name_tables.specs.Table.{Table}
use Rattle.revision_calculus.specs.Evaluation.{with_local}

module _ (name : Name) (x : Value) where
  abbrev is_it : Name × Value → Bool
  is_it e = same name e.0

  change : (es : Table Value) (i : ℕ) (d : Name × Value) → i < length es → is_it (get_or es i d) ≡ true
      → ((k : ℕ) → k < i → is_it (get_or es k d) ≡ false) → set es i ((get_or es i d).0, x) ≡ with_local es name x
  change [] i d lt hit miss = absurd (omega arith)
  change (e ∷ es) zero d lt hit miss = ap (λ b. cond b ((e.0, x) ∷ es) (e ∷ with_local es name x)) (sym hit)
  change (e ∷ es) (suc i) d lt hit miss =
      ap (λ t. e ∷ t) (change es i d (omega arith) hit (λ k below. miss (suc k) (omega arith)))
      ∙ ap (λ b. cond b ((e.0, x) ∷ es) (e ∷ with_local es name x)) (sym (miss 0 (omega arith)))

  -- the local at this place is changed
  pub changed : (es : Table Value) (i : ℕ) (d : Name × Value) → position is_it es ≡ Some i
      → set es i ((get_or es i d).0, x) ≡ with_local es name x
  changed es i d at = let f = position-Some is_it es i d at in change es i d f.0 f.1 f.2

  none_before : (es : Table Value) → length es ≤ position_or_len is_it es → with_local es name x ≡ es ++ (name, x) ∷ []
  none_before [] none = refl
  none_before (e ∷ es) none = by (is_it e) none (none_before es)
    where
      by : (b : Bool) → suc (length es) ≤ cond (not b) (1 + position_or_len is_it es) 0
          → (length es ≤ position_or_len is_it es → with_local es name x ≡ es ++ (name, x) ∷ [])
          → cond b ((e.0, x) ∷ es) (e ∷ with_local es name x) ≡ e ∷ (es ++ (name, x) ∷ [])
      by true none later = absurd (omega arith)
      by false none later = ap (λ t. e ∷ t) (later (omega arith))

  -- a local of this name is new
  pub added : (es : Table Value) → position is_it es ≡ None → with_local es name x ≡ es ++ (name, x) ∷ []
  added es at = none_before es (by (ltb (position_or_len is_it es) (length es)) refl at)
    where
      by : (b : Bool) → ltb (position_or_len is_it es) (length es) ≡ b
          → cond b (Some (position_or_len is_it es)) None ≡ None → length es ≤ position_or_len is_it es
      by true test e = cc
      by false test e = grind (arith, nat_tests)

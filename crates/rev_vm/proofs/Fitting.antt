-- What joins bring has the kinds of its locations.
use Rattle.std.proofs.Common.{◌≡◌, ◌∙◌, ℕ, List, [], ◌∷◌, Some, refl, sym, ap, subst}
use Rattle.std.specs.Prelude.{Result, Ok, Err, slice_get}
use Rattle.rev_num.specs.declared.value.NumFault.{NumFault}
use Rattle.rev_num.specs.declared.value.ValueKind.{ValueKind}
use Rattle.rev_code.specs.Words.{Word, kind_of}
use Rattle.rev_code.specs.State.{Location, seen_at, written_at}
use Rattle.code_soundness.specs.Typed.{AreLocations, location_kinds}
use Rattle.code_soundness.proofs.Variables.{seen_there, written_there}
use Rattle.version_map.specs.Composing.{Entry, Composition, and_later, composed}
use Rattle.code_machine.specs.Local.{CodeRun, IsVerified}
use Rattle.code_machine.specs.Joining.{merges, main_at, mains, written_all}
use Rattle.code_machine.proofs.Typing.{new_kind}

-- a written location, with words of its kind
pub record IsFit (kinds : List ValueKind) (e : Entry (Word ℕ)) : Type 0 where
  pub kind : ValueKind
  pub there : slice_get kinds e.location ≡ Some kind
  pub value : kind_of e.value ≡ kind
  pub root : kind_of e.root ≡ kind

abbrev pub AreFit : List ValueKind → List (Entry (Word ℕ)) → Type 0
AreFit kinds [] = Unit {0}
AreFit kinds (e ∷ es) = IsFit kinds e × AreFit kinds es

module _ (g : CodeRun) (ok : IsVerified g) where
  abbrev Typed : List (Location ℕ) → Type 0
  Typed ls = AreLocations (location_kinds g.code.vars) ls

  later_ok : (n : ℕ) (r : Result (Word ℕ) NumFault) (c : Composition (Word ℕ)) (ws : List (Word ℕ))
      → and_later n r c ≡ Ok ws → (w : Word ℕ) × (us : List (Word ℕ)) × (r ≡ Ok w) × (c ≡ Ok us) × (ws ≡ w ∷ us)
  later_ok n (Ok w) (Ok us) ws e =
      (w, us, refl, refl, (let z : Ok (w ∷ us) ≡ Ok ws = e in let y : w ∷ us ≡ ws = cc in sym y))
  later_ok n (Ok w) (Err f) ws e = absurd (let z : Err f ≡ Ok ws = e in cc)
  later_ok n (Err f) c ws e = absurd (let z : Err (n, f) ≡ Ok ws = e in cc)

  -- the joiner's words there
  pub main_kind : (ls : List (Location ℕ)) → Typed ls → (e : Entry (Word ℕ)) (f : IsFit (location_kinds g.code.vars) e)
      → kind_of (main_at (seen_at ls e.location)) ≡ f.kind
  main_kind ls h e f =
      let s = seen_there (location_kinds g.code.vars) ls e.location f.kind h f.there in
      ap (λ o. kind_of (main_at o)) s.1 ∙ s.2

  pub written_kinds : (es : List (Entry (Word ℕ))) (base ls : List (Location ℕ)) (ws : List (Word ℕ))
      → AreFit (location_kinds g.code.vars) es → Typed base → Typed ls
      → composed (merges g) (mains base es) es ≡ Ok ws → Typed (written_all ls es ws)
  written_kinds [] base ls ws f b h e = h
  written_kinds (x ∷ es) base ls ws f b h e =
      let o = later_ok x.location (merges g x.location (main_at (seen_at base x.location)) x.value x.root)
      (composed (merges g) (mains base es) es) ws e in
      let kind =
      new_kind g ok x.location f.0.kind (main_at (seen_at base x.location)) x.value x.root o.0 f.0.there
      (main_kind base b x f.0) f.0.value f.0.root o.2 in
      let h' = written_there (location_kinds g.code.vars) ls x.location o.0 h (f.0.there ∙ ap Some (sym kind)) in
      subst (λ z. Typed (written_all ls (x ∷ es) z)) (sym o.4)
      (written_kinds es base (written_at ls x.location o.0) o.1 f.1 b h' o.3)

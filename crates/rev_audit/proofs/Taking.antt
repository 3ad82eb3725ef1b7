-- What a joiner takes of a stated part.
use Rattle.std.proofs.Common.{◌≡◌, inl, inr, ℕ, suc, ◌+◌, ◌<◌, ◌≤◌, ◌^◌, Bool, true, false, ◌&&◌, List, [], ◌∷◌, length, Option, Some, None, refl, sym, ap, ◌∙◌, arith}
use Rattle.std.proofs.lemmas.Bool.{and_from, le-leb}
use Rattle.std.proofs.lemmas.Bool.Decides.{nat_tests}
use Rattle.std.specs.Prelude.{nat_le}
use Rattle.rev_num.specs.Path.{Path}
use Rattle.rev_num.specs.declared.value.ValueKind.{ValueKind}
use Rattle.rev_num.specs.Limits.{most_fuel}
use Rattle.revision_calculus.specs.Program.{Setting}
use Rattle.revision_calculus.specs.State.{Local, Phase}
use Rattle.revision_calculus.specs.Calculus.{calculus}
use Rattle.revision_calculus.specs.Kinded.{IsAccepted, location_kinds}
use Rattle.revision_state.specs.Ends.{phase_of}
use Rattle.stated_parts.specs.declared.ends.AloneEnd.{AloneEnd}
use Rattle.rev_audit.specs.Alone.{IsEndOf, JoinsEnd}
use Rattle.trace_diagram.specs.declared.diagram.Change.{Change}
use Rattle.trace_diagram.specs.declared.diagram.Part.{Part}
use Rattle.audit_rules.specs.Audited.{taken}
use Rattle.audit_rules.specs.Parts.{OwnFits, calculus_parts, changes_fit, places, takes_in, told, told_locations, told_phase}
use Rattle.audit_rules.specs.Traces.{part_at}
use Rattle.audit_rules.proofs.OwnRuns.{are_length, same_length}
use Rattle.rev_audit.specs.Own.{TakesOrNot, taken_of}
use Rattle.stated_parts.specs.Told.{ToldBy}

told_length : (ps : List (List ℕ)) (ts : List ValueKind) (cs : List Change) → length ps ≡ length ts
    → length (told_locations ps ts cs) ≡ length ts
told_length [] [] cs e = refl
told_length [] (t ∷ ts) cs e = absurd (omega arith)
told_length (p ∷ ps) [] cs e = absurd (omega arith)
told_length (p ∷ ps) (t ∷ ts) cs e =
    ap suc (told_length ps ts cs (let f : suc (length ps) ≡ suc (length ts) = e in omega arith))

module _ (s : Setting) (fuel : ℕ) (parts : List Part) (well : IsAccepted s.program) (r : Path) (l : Local)
    (q : Path) where
  pub takes_no_part : part_at parts q ≡ None → TakesOrNot s fuel parts r l q None
  takes_no_part e = ap (taken (calculus s) (calculus_parts s fuel) (part_at parts) r l q) e

  -- with the phase and the test that this part has
  takes_by : (p : Part) (o : Option Phase) (b : Bool) → part_at parts q ≡ Some p → told_phase (places s) p.end ≡ o
      → (changes_fit (places s) (location_kinds s) p.written && nat_le (p.fuel + l.fuel + l.forks) fuel) ≡ b
      → taken_of s fuel parts r l q ≡ takes_in s r l q p o b
  takes_by p o b e phase fit =
      ap (taken (calculus s) (calculus_parts s fuel) (part_at parts) r l q) e
      ∙ (λ i. takes_in s r l q p (phase i) (fit i))

  none_taken : (p : Part) (o : Option Phase) → takes_in s r l q p o false ≡ None
  none_taken p None = refl
  none_taken p (Some ph) = refl

  pub takes_no_room : (p : Part) → part_at parts q ≡ Some p → fuel < p.fuel + l.fuel + l.forks
      → TakesOrNot s fuel parts r l q None
  takes_no_room p e more =
      let few : nat_le (p.fuel + l.fuel + l.forks) fuel ≡ false = grind (arith, nat_tests) in
      takes_by p (told_phase (places s) p.end) false e refl
      (ap (λ b. changes_fit (places s) (location_kinds s) p.written && b) few
      ∙ and_none (changes_fit (places s) (location_kinds s) p.written))
      ∙ none_taken p (told_phase (places s) p.end)
    where
      and_none : (b : Bool) → (b && false) ≡ false
      and_none true = refl
      and_none false = refl

  pub takes_told : (p : Part) (o : Option AloneEnd) → part_at parts q ≡ Some p → p.fuel + l.fuel + l.forks ≤ fuel
      → fuel ≤ most_fuel → OwnFits s fuel r l → ToldBy s p o → TakesOrNot s fuel parts r l q o
  takes_told p None e room small fits (inl none) =
      takes_by p None (changes_fit (places s) (location_kinds s) p.written && nat_le (p.fuel + l.fuel + l.forks) fuel) e
      none refl
  takes_told p None e room small fits (inr unfit) =
      takes_by p (told_phase (places s) p.end) false e refl
      (ap (λ b. b && nat_le (p.fuel + l.fuel + l.forks) fuel) unfit)
      ∙ none_taken p (told_phase (places s) p.end)
  takes_told p (Some x) e room small fits h = record { room = wide; is = is }
    where
      few : nat_le (p.fuel + l.fuel + l.forks) fuel ≡ true
      few = le-leb (p.fuel + l.fuel + l.forks) fuel room

      wide : l.fuel + x.fuel < 2 ^ 64
      wide = let fuel_is = h.fuel in omega arith

      count : length (told_locations (places s) (location_kinds s) p.written) ≡ length l.locations
      count = told_length (places s) (location_kinds s) p.written (same_length s well fuel)
          ∙ sym (are_length (location_kinds s) l.locations fits.kinded.locations)

      ended : IsEndOf x (told s p (phase_of x.trap))
      ended = record { written = h.written; text = h.text; fuel = h.fuel; trap = refl }

      is : (l' : Local) → JoinsEnd s r l q x l' → taken_of s fuel parts r l q ≡ Some l'
      is l' joins =
          takes_by p (Some (phase_of x.trap)) true e h.phase (and_from _ _ h.fits few)
          ∙ ap Some (sym (joins (told s p (phase_of x.trap)) count ended))

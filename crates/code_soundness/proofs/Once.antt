-- A frame gets on between two Charges.
use Rattle.std.proofs.Common.{◌≡◌, ◌∙◌, ◌⊎◌, inl, inr, ℕ, zero, suc, ◌<◌, ◌≤◌, Bool, true, false, List, [], ◌∷◌, length, Some, refl, sym, ap, subst, arith, true≢false}
use Rattle.std.specs.Prelude.{slice_get, nat_lt}
use Rattle.std.proofs.lemmas.Bool.Decides.{nat_tests}
use Rattle.rev_code.specs.declared.code.CodeBlock.{CodeBlock}
use Rattle.rev_code.specs.declared.code.Instr.{Instr}
use Rattle.rev_code.specs.State.{State, Frame, Setting}
use Rattle.rev_code.specs.Step.{goes, step}
use Rattle.code_rules.specs.Pass.{Note, is_charge, is_value_class, target, bad_jump}
use Rattle.code_soundness.specs.Prices.{AllCertified, instr_in}
use Rattle.code_soundness.specs.OncePerCharge.{at_charge, Within, stay, more, OncePerFrame}
use Rattle.code_soundness.proofs.Costing.{back_at_charge}
use Rattle.code_soundness.proofs.Ways as w
use Rattle.code_soundness.proofs.Ways.{Way, Ways, ways}

module _ {H : Type 0} (s : Setting H) (notes : ℕ → ℕ → Note) (certified : AllCertified s.code notes)
    (deep block at : ℕ) where
  -- the frame with so many frames below it waits at a later place
  abbrev Waits : List (Frame H) → Type 0
  Waits [] = ⊥
  Waits (f ∷ fs) = ((length fs ≡ deep) × (f.block ≡ block) × (at < f.at)) ⊎ Waits fs

  waits_above : (fs : List (Frame H)) → Waits fs → deep < length fs
  waits_above [] h = absurd h
  waits_above (f ∷ fs) (inl h) = let e = h.0 in omega (arith, e)
  waits_above (f ∷ fs) (inr h) = let e = waits_above fs h in omega (arith, e)

  -- it is on top, not behind the place, or it waits
  abbrev Near : ℕ → ℕ → List (Frame H) → Type 0
  Near n to fs = ((length fs ≡ deep) × (n ≡ block) × (at ≤ to)) ⊎ Waits fs

  -- it is on top, at a later place or at a Charge, or it waits
  abbrev Past : ℕ → ℕ → List (Frame H) → Type 0
  Past n to fs =
      ((length fs ≡ deep) × (n ≡ block) × ((at < to) ⊎ (is_charge (instr_in (slice_get s.code.blocks n) to) ≡ true)))
      ⊎ Waits fs

  near : (n to : ℕ) (fs : List (Frame H)) → Past n to fs → is_charge (instr_in (slice_get s.code.blocks n) to) ≡ false
      → Near n to fs
  near n to fs (inl (l, e, inl less)) free = inl (l, e, omega (arith, less))
  near n to fs (inl (l, e, inr charge)) free = absurd (true≢false (sym charge ∙ free))
  near n to fs (inr h) free = inr h

  lands : (n from to : ℕ) (b : CodeBlock) (x : Instr) → slice_get s.code.blocks n ≡ Some b
      → slice_get b.instrs from ≡ Some x → target x ≡ Some to
      → (from < to) ⊎ (is_charge (instr_in (slice_get s.code.blocks n) to) ≡ true)
  lands n from to b x is here tg = by (nat_lt from to) refl
    where
      bad : bad_jump b from (Some to) ≡ false
      bad = ap (bad_jump b from) (sym tg) ∙ ((certified n b is).each from x here).target

      by : (d : Bool) → nat_lt from to ≡ d → (from < to) ⊎ (is_charge (instr_in (slice_get s.code.blocks n) to) ≡ true)
      by true z = inl (grind (arith, nat_tests, z))
      by false z = inr (ap (λ o. is_charge (instr_in o to)) is
          ∙ back_at_charge (nat_lt to (length b.instrs)) (nat_lt from to) (is_value_class b.class)
          (is_charge (slice_get b.instrs to)) bad z)

  -- one step that does not leave the frame
  goes_on : (c : State H) (n to : ℕ) (fs : List (Frame H)) (fuel : ℕ) → Way s c n to fs fuel → at_charge s c ≡ false
      → deep ≤ length fs
      → Near c.block c.at c.below → Past n to fs
  goes_on c n to fs fuel (w.ahead b x is here pl f e1 e2 e3 e4) free above (inl (l, e, less)) =
      inl (ap length e3 ∙ l, e1 ∙ e, inl (omega (arith, less, e2)))
  goes_on c n to fs fuel (w.ahead b x is here pl f e1 e2 e3 e4) free above (inr h) = inr (subst Waits (sym e3) h)
  goes_on c n to fs fuel (w.leapt b x is here pl tg e1 e3 e4) free above (inl (l, e, less)) =
      inl (ap length e3 ∙ l, e1 ∙ e, leaps (lands c.block c.at to b x is here tg))
    where
      leaps : (c.at < to) ⊎ (is_charge (instr_in (slice_get s.code.blocks c.block) to) ≡ true)
          → (at < to) ⊎ (is_charge (instr_in (slice_get s.code.blocks n) to) ≡ true)
      leaps (inl z) = inl (omega (arith, less, z))
      leaps (inr z) = inr (ap (λ m. is_charge (instr_in (slice_get s.code.blocks m) to)) e1 ∙ z)
  goes_on c n to fs fuel (w.leapt b x is here pl tg e1 e3 e4) free above (inr h) = inr (subst Waits (sym e3) h)
  goes_on c n to fs fuel (w.charged b line is here e1 e2 e3 e4) free above h =
      absurd (true≢false (sym (ap (λ o. is_charge (instr_in o c.at)) is ∙ ap is_charge here) ∙ free))
  goes_on c n to fs fuel (w.called b m y locals is here other e1 e2 e3 e4) free above (inl (l, e, less)) =
      inr (subst Waits (sym e3) (inl (l, e, omega (arith, less))))
  goes_on c n to fs fuel (w.called b m y locals is here other e1 e2 e3 e4) free above (inr h) =
      inr (subst Waits (sym e3) (inr h))
  goes_on c n to fs fuel (w.returned b x f is here e e1 e2 e4) free above (inl (l, q, less)) =
      absurd (let z : length c.below ≡ suc (length fs) = ap length e in omega (arith, z, l, above))
  goes_on c n to fs fuel (w.returned b x f is here e e1 e2 e4) free above (inr h) = back (subst Waits e h)
    where
      back : Waits (f ∷ fs) → Past n to fs
      back (inl (l, q, less)) = inl (l, e1 ∙ q, inl (omega (arith, less, e2)))
      back (inr z) = inr z

  one : (c c' : State H) → step s c ≡ goes c' → at_charge s c ≡ false → deep ≤ length c'.below
      → Near c.block c.at c.below → Past c'.block c'.at c'.below
  one c c' e free above h = goes_on c c'.block c'.at c'.below c'.fuel (subst (Ways s c) e (ways s c)) free above h

  all : (k : ℕ) (c c' : State H) → Within s deep k c c' → Past c.block c.at c.below → Past c'.block c'.at c'.below
  all zero c c' stay h = h
  all (suc k) c c' (more free e above rest) h =
      all k _ c' rest (one c _ e free above (near c.block c.at c.below h free))

  some : (k : ℕ) (c c' : State H) → Within s deep (suc k) c c' → Near c.block c.at c.below
      → Past c'.block c'.at c'.below
  some k c c' (more free e above rest) h = all k _ c' rest (one c _ e free above h)

  ended : (n to : ℕ) (fs : List (Frame H)) → length fs ≡ deep
      → is_charge (instr_in (slice_get s.code.blocks n) to) ≡ false → Past n to fs → (n ≡ block) × (at < to)
  ended n to fs l free (inl (_, e, inl less)) = (e, less)
  ended n to fs l free (inl (_, e, inr charge)) = absurd (true≢false (sym charge ∙ free))
  ended n to fs l free (inr h) = absurd (let z = waits_above fs h in omega (arith, z, l))

pub once : OncePerFrame
once s notes certified k c c' way same free =
    ended s notes certified (length c.below) c.block c.at c'.block c'.at c'.below same free
    (some s notes certified (length c.below) c.block c.at k c c' way (inl (refl, refl, omega arith)))

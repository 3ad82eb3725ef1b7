-- What a revision's own run keeps, whatever is stated.
use Rattle.std.proofs.Common.{◌≡◌, ◌⊎◌, inl, inr, ℕ, ◌+◌, Bool, true, false, ◌&&◌, [], length, Option, Some, None, refl, sym, ap, ◌∙◌, subst, arith}
use Rattle.std.proofs.lemmas.Bool.{and_parts, leb-true}
use Rattle.std.specs.Prelude.{nat_le}
use Rattle.rev_num.specs.Path.{Path, child}
use Rattle.rev_num.specs.declared.outcome.Trap.{Trap}
use Rattle.revision_machine.specs.PathMap.{PathMap}
use Rattle.revision_machine.specs.Machine.{Joins, Ended}
use Rattle.revision_calculus.specs.Program.{Setting}
use Rattle.revision_calculus.specs.State.{Phase, done, trapped, Local}
use Rattle.revision_calculus.specs.Step.{by_phase, next}
use Rattle.revision_calculus.specs.Join.{join}
use Rattle.revision_calculus.specs.Calculus.{main, calculus}
use Rattle.revision_calculus.specs.KeptBySteps.{IsAtWork, IsTrapBelow, IsShaped}
use Rattle.revision_calculus.specs.Kinded.{IsAccepted, location_kinds, FramesAt, names, IsKinded}
use Rattle.revision_calculus.proofs.Joining.{JoinOk, join_forks}
use Rattle.revision_calculus.proofs.Meets.{joins_ok, spends_forks}
use Rattle.revision_calculus.proofs.Shapes.{shape_kept, main_shaped}
use Rattle.revision_calculus.proofs.StepKinds.{kind_kept, main_kinded}
use Rattle.audit_rules.specs.Audited.{taken, Alone, by_move, by_fork, by_join, Passes, at_first, then_by, Begins, of_main, of_fork}
use Rattle.trace_diagram.specs.declared.diagram.Part.{Part}
use Rattle.audit_rules.specs.Parts.{places, told_phase, told, changes_fit, takes_in, takes, calculus_parts, OwnFits, OwnRunsFit}
use Rattle.audit_rules.proofs.OneOwnRun.{none_some}
use Rattle.audit_rules.proofs.ToldSuffices.{taken_kinded, told_is_ended, told_below}
use Rattle.audit_rules.proofs.PlacesApart.{places_apart}
use Rattle.audit_rules.proofs.CalculusMeets.{places_length}
pub use Rattle.revision_calculus.proofs.LocationKinds.{are_length}

module _ (s : Setting) (well : IsAccepted s.program) (fuel : ℕ) where
  pub same_length : length (places s) ≡ length (location_kinds s)
  same_length =
      places_length s ∙ sym (main_shaped s fuel).locations
      ∙ are_length (location_kinds s) (main s fuel).locations (main_kinded s well fuel).locations

  told_ends : (q : Path) (p : Part) (ph : Phase) → (ph ≡ done) ⊎ ((t : Trap) × (ph ≡ trapped t))
      → next s q (told s p ph) ≡ Ended
  told_ends q p ph (inl e) = ap (by_phase s q (told s p ph)) e
  told_ends q p ph (inr h) = ap (by_phase s q (told s p ph)) h.1

  told_fits : (q : Path) (p : Part) (ph : Phase) → changes_fit (places s) (location_kinds s) p.written ≡ true
      → (ph ≡ done) ⊎ ((t : Trap) × (ph ≡ trapped t)) → IsKinded s q (told s p ph)
  told_fits q p ph e h = record {
    locations = taken_kinded (places s) (location_kinds s) p.written (places_apart s well) same_length e;
    frames = frames h;
  }
    where
      frames : (ph ≡ done) ⊎ ((t : Trap) × (ph ≡ trapped t)) → FramesAt (names s) ph []
      frames (inl e) = subst (λ v. FramesAt (names s) v []) (sym e) refl
      frames (inr h) = subst (λ v. FramesAt (names s) v []) (sym h.1) tt

  told_shape : (q : Path) (p : Part) (ph : Phase) → told_phase (places s) p.end ≡ Some ph
      → changes_fit (places s) (location_kinds s) p.written ≡ true → (ph ≡ done) ⊎ ((t : Trap) × (ph ≡ trapped t))
      → IsShaped s q (told s p ph)
  told_shape q p ph f e h = record {
    locations = are_length (location_kinds s) (told s p ph).locations (told_fits q p ph e h).locations ∙ sym same_length
        ∙ places_length s;
    most = omega arith;
    some = λ w. absurd (idle h w);
    trap = subst (λ n. IsTrapBelow n ph) (places_length s) (told_below (places s) p.end ph f);
  }
    where
      idle : (ph ≡ done) ⊎ ((t : Trap) × (ph ≡ trapped t)) → IsAtWork ph → ⊥
      idle (inl e) w = subst IsAtWork e w
      idle (inr h) w = subst IsAtWork h.1 w

  taken_fits : (r q : Path) (l l' : Local) (p : Part) → OwnFits s fuel r l → next s r l ≡ Joins q
      → takes s fuel r l q p ≡ Some l' → OwnFits s fuel r l'
  taken_fits r q l l' p has does e =
      go (told_phase (places s) p.end) refl
      (changes_fit (places s) (location_kinds s) p.written && nat_le (p.fuel + l.fuel + l.forks) fuel) refl e
    where
      go : (o : Option Phase) → told_phase (places s) p.end ≡ o → (b : Bool)
          → (changes_fit (places s) (location_kinds s) p.written && nat_le (p.fuel + l.fuel + l.forks) fuel) ≡ b
          → takes_in s r l q p o b ≡ Some l' → OwnFits s fuel r l'
      go None f b g e = none_some e
      go (Some ph) f false g e = none_some e
      go (Some ph) f true g e =
          let j : Local = told s p ph in
          let both =
          and_parts (changes_fit (places s) (location_kinds s) p.written) (nat_le (p.fuel + l.fuel + l.forks) fuel) g in
          let few = leb-true (p.fuel + l.fuel + l.forks) fuel both.1 in
          let h = told_is_ended (places s) p.end ph f in
          let ended : next s q j ≡ Ended = told_ends q p ph h in
          let kinds : IsKinded s r (join s r l q j) =
          (kind_kept s well).joins r q l j has.kinded (told_fits q p ph both.0 h) does ended in
          let ok : JoinOk l j (join s r l q j) = joins_ok s r q l j does ended in
          let most = ok.fuel in
          let given : j.fuel ≡ p.fuel = refl in
          let count = join_forks s r l q j in
          let is : join s r l q j ≡ l' = cc in
          let fits : OwnFits s fuel r (join s r l q j) = record {
            kinded = kinds;
            shaped = (shape_kept s).joins r q l j has.shaped (told_shape q p ph f both.0 h) does ended;
            room = omega arith;
          } in
          subst (OwnFits s fuel r) is fits

  module _ (stated : PathMap Part) where
    step_fits : (r : Path) (l l' : Local) → OwnFits s fuel r l
        → Alone (calculus s) (calculus_parts s fuel) stated r l l' → OwnFits s fuel r l'
    step_fits r l l' has (by_move e) =
        let h = (spends_forks s).moves r l l' e in
        let room = has.room in
        record {
          kinded = (kind_kept s well).moves r l l' has.kinded e;
          shaped = (shape_kept s).moves r l l' has.shaped e;
          room = omega arith;
        }
    step_fits r l l' has (by_fork c e) =
        let h = (spends_forks s).forks r l l' c e in
        let room = has.room in
        record {
          kinded = (kind_kept s well).forker r l l' c has.kinded e;
          shaped = (shape_kept s).forker r l l' c has.shaped e;
          room = omega arith;
        }
    step_fits r l l' has (by_join q e once t) = by (stated q) t
      where
        by : (o : Option Part) → taken (calculus s) (calculus_parts s fuel) stated r l q o ≡ Some l'
            → OwnFits s fuel r l'
        by None t = none_some t
        by (Some p) t = taken_fits r q l l' p has e t

    passes_fits : (r : Path) (a l : Local) → OwnFits s fuel r a
        → Passes (calculus s) (calculus_parts s fuel) stated r a l → OwnFits s fuel r l
    passes_fits r a l has at_first = has
    passes_fits r a l has (then_by k _ p step) = step_fits r k l (passes_fits r a k has p) step

    begins_fits : (r : Path) (a : Local) → Begins (calculus s) (calculus_parts s fuel) (main s fuel) stated r a
        → OwnFits s fuel r a
    begins_fits r a (of_main _ _ e f) =
        let first : OwnFits s fuel [] (main s fuel) =
        record { kinded = main_kinded s well fuel; shaped = main_shaped s fuel; room = omega arith } in
        subst (λ v. OwnFits s fuel v a) (sym e) (subst (OwnFits s fuel []) (sym f) first)
    begins_fits r a (of_fork _ _ g first l l' p bg sg pg does at) =
        let there = passes_fits g first l (begins_fits g first bg) pg in
        let h = (spends_forks s).forks g l l' a does in
        let room = there.room in
        let fits : OwnFits s fuel (child g l.forks) a = record {
          kinded = (kind_kept s well).forked g l l' a there.kinded does;
          shaped = (shape_kept s).forked g l l' a there.shaped does;
          room = omega arith;
        } in
        subst (λ v. OwnFits s fuel v a) (sym at) fits

  pub own_runs_fit : OwnRunsFit s fuel
  own_runs_fit stated r a l begins passes = passes_fits stated r a l (begins_fits stated r a begins) passes

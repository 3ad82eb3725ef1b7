-- The trace of the end of a complete run has the form of a trace text.
use Rattle.std.proofs.Common.{◌≡◌, ◌∙◌, inl, inr, ℕ, ◌+◌, ◌^◌, ◌<◌, ◌≤◌, true, false, List, [], ◌∷◌, map, length, Option, Some, None, refl, sym, ap, subst, arith}
use Rattle.std.specs.List.{AllByRecursion}
use Rattle.rev_num.specs.Limits.{most_fuel}
use Rattle.rev_num.specs.Path.{Path, before, child}
use Rattle.rev_num.specs.declared.value.Value.{Value}
use Rattle.typed_programs.specs.Least.{Among}
use Rattle.block_run.specs.Agreement.{AreInputs}
use Rattle.revision_machine.specs.Machine.{Moves, Forks, Entry, Global, Twice, Live, Revisions, Reached}
use Rattle.revision_machine.specs.Laws.{local_of, Everywhere, HasMain}
use Rattle.revision_machine.proofs.KeptByEvents.{kept_law}
use Rattle.revision_machine.proofs.Standing.{standing_law}
use Rattle.revision_calculus.specs.Program.{Setting}
use Rattle.revision_calculus.specs.State.{Location, Noted, forked, joined, Phase, running, joining, done, trapped, Local}
use Rattle.revision_calculus.specs.Calculus.{calculus, main}
use Rattle.revision_calculus.specs.KeptBySteps.{IsShaped, IsTrapBelow}
use Rattle.revision_calculus.specs.Kinded.{IsAccepted}
use Rattle.revision_calculus.proofs.Meets.{counts, spends_forks}
use Rattle.revision_calculus.proofs.Shapes.{shape_kept, main_shaped}
use Rattle.trace_diagram.specs.Lines.{FitsChange, FitsEnd, FitsEvent}
use Rattle.trace_diagram.specs.Places.{IsPlace}
use Rattle.trace_diagram.specs.Traces.{IsPart, MainIsLast}
use Rattle.trace_diagram.specs.Traces as form
use Rattle.trace_diagram.specs.declared.diagram.Part.{Part}
use Rattle.trace_diagram.specs.declared.diagram.Trace.{Trace}
use Rattle.audit_rules.specs.Parts.{change_of, changes, end_at, event_of, part_of, places}
use Rattle.audit_rules.specs.Traces.{InPostOrder, IsPartOf, IsTrace, part_at}
use Rattle.audit_rules.proofs.CalculusMeets.{places_length}
use Rattle.audit_rules.proofs.TracesAsParts.{found}
use Rattle.audit_rules.proofs.FinalTraces.{at_own}
use Rattle.program_texts.specs.Forms.{TracesHaveForm}
use Rattle.program_texts.specs.Written.{IsWritten}
use Rattle.program_texts.proofs.Joins.{join_fits}
use Rattle.program_texts.proofs.Places.{cause_placed, places_placed}
use Rattle.program_texts.proofs.Runs.{IsKeptBelow, kept_below}
use Rattle.program_texts.proofs.Starts.{main_fits}
use Rattle.program_texts.proofs.States.{LocationsFit, NotedFits, PhaseFits, StateFits}
use Rattle.program_texts.proofs.Steps.{EventFits, event_fits}
use Rattle.program_texts.proofs.WrittenTexts.{is_text}
use Rattle.program_texts.proofs.WrittenValues.{FitsIfAny}

-- ---- one part

events_fit : (ns : List Noted) → AllByRecursion NotedFits ns → AllByRecursion FitsEvent (map event_of ns)
events_fit [] h = tt
events_fit (forked q line ∷ ns) h = (h.0, events_fit ns h.1)
events_fit (joined q line ∷ ns) h = (h.0, events_fit ns h.1)

changes_fit : (ps : List (List ℕ)) (ms : List Location) → AllByRecursion IsPlace ps → LocationsFit ms
    → AllByRecursion FitsChange (changes ps ms)
changes_fit [] ms h k = tt
changes_fit (p ∷ ps) [] h k = tt
changes_fit (p ∷ ps) (m ∷ ms) h k = by m.written k.0.written (changes_fit ps ms h.1 k.1)
  where
    by : (o : Option Value) → FitsIfAny o → AllByRecursion FitsChange (changes ps ms)
        → AllByRecursion FitsChange (change_of p m o (changes ps ms))
    by None fit later = later
    by (Some x) fit later = (record { place = h.0; value = fit; root = k.0.base }, later)

end_fits : (ps : List (List ℕ)) (p : Phase) → AllByRecursion IsPlace ps → IsTrapBelow (length ps) p → PhaseFits p
    → FitsEnd (end_at ps p)
end_fits ps running h below k = tt
end_fits ps (joining q left) h below k = tt
end_fits ps done h below k = tt
end_fits ps (trapped t) h below k = record { place_of = cause_placed ps t.cause h below; small = k.0; path = k.1 }

-- ---- parts in post-order

none_before_main : (r q : Path) → r ≡ [] → before r q ≡ true → ⊥
none_before_main r q e h = let clash : false ≡ true = sym (ap (λ v. before v q) e) ∙ h in cc

main_is_last : (ps : List Part) → InPostOrder ps → (m : Part) → Among ps m → m.path ≡ [] → MainIsLast ps
main_is_last [] order m i is = absurd i
main_is_last (p ∷ []) order m (inl e) is = ap (λ v. v.path) e ∙ is
main_is_last (p ∷ []) order m (inr none) is = absurd none
main_is_last (p ∷ q ∷ ps) order m (inl e) is =
    absurd (none_before_main p.path q.path (ap (λ v. v.path) e ∙ is) (order.0 q (inl refl)))
main_is_last (p ∷ q ∷ ps) order m (inr i) is = (order.0 q (inl refl), main_is_last (q ∷ ps) order.1 m i is)

all_of : (ps : List Part) → ((p : Part) → Among ps p → IsPart p) → AllByRecursion IsPart ps
all_of [] h = tt
all_of (p ∷ ps) h = (h p (inl refl), all_of ps (λ q i. h q (inr i)))

-- ---- a final state

module _ (s : Setting) (fuel : ℕ) (well : IsAccepted s.program) (written : IsWritten s.program)
    (inputs : AreInputs s.inputs) (most : fuel ≤ most_fuel) where
  abbrev amount : Local → ℕ
  amount l = l.fuel + l.forks

  few_forks : (l : Local) → amount l ≤ amount (main s fuel) → l.forks < 2 ^ 32
  few_forks l room = omega (arith, room, most)

  kept : IsKeptBelow (calculus s) amount (amount (main s fuel)) StateFits
  kept = record {
    moves = λ r l l' h room does. moves_of r l l' (event_fits s written inputs r l h (few_forks l room) does);
    forker = λ r l l' c h room does. (forks_of r l l' c (event_fits s written inputs r l h (few_forks l room) does)).0;
    forked = λ r l l' c h room does. (forks_of r l l' c (event_fits s written inputs r l h (few_forks l room) does)).1;
    joins = λ r q l j h k does ended. join_fits s written r q l j h k;
  }
    where
      moves_of : (r : Path) (l l' : Local) → EventFits r l.forks (Moves l') → StateFits r l'
      moves_of r l l' h = h

      forks_of : (r : Path) (l l' c : Local) → EventFits r l.forks (Forks l' c)
          → StateFits r l' × StateFits (child r l.forks) c
      forks_of r l l' c h = h

  part_fits : (r : Path) (l : Local) → StateFits r l → amount l ≤ amount (main s fuel) → IsShaped s r l
      → IsPart (part_of s r l)
  part_fits r l h room shape =
      let ps = places_placed s well.small in
      let below : IsTrapBelow (length (places s)) l.phase =
      subst (λ n. IsTrapBelow n l.phase) (sym (places_length s)) shape.trap in
      record {
        path = h.path;
        events = events_fit l.noted h.noted;
        end = end_fits (places s) l.phase ps below h.phase;
        fuel = omega (arith, room, most);
        written = changes_fit (places s) l.locations ps h.locations;
        text = is_text l.text h.text;
      }

  module _ (revs : Revisions (calculus s)) (ps : List Part) (trace : IsTrace s (Live revs) ps) where
    part_form : Everywhere (calculus s) (λ r l. StateFits r l × (amount l ≤ amount (main s fuel))) (Live revs)
        → Everywhere (calculus s) (IsShaped s) (Live revs) → (p : Part) → Among ps p → IsPart p
    part_form fits shaped p i =
        by (revs p.path) refl (subst (λ o. IsPartOf s p.path o (revs p.path)) (at_own ps trace.0 p i) (trace.1 p.path))
      where
        by : (o : Option (Entry Local)) → revs p.path ≡ o → IsPartOf s p.path (Some p) o → IsPart p
        by None here none = absurd none
        by (Some e) here is =
            let h = fits p.path e here in
            subst IsPart (sym is) (part_fits p.path (local_of e) h.0 h.1 (shaped p.path e here))

    main_among : HasMain (calculus s) revs → (m : Part) × Among ps m × (m.path ≡ [])
    main_among stands = by (part_at ps []) refl (subst (IsPartOf s [] (part_at ps [])) stands.1 (trace.1 []))
      where
        by : (o : Option Part) → part_at ps [] ≡ o → IsPartOf s [] o (Some stands.0)
            → (m : Part) × Among ps m × (m.path ≡ [])
        by None e none = absurd none
        by (Some m) e is = let h = found ps [] m e in (m, h.0, h.1)

  trace_form : (g : Global Local) → Reached (calculus s) (main s fuel) g → (t : Trace) → IsTrace s g t.parts
      → form.IsTrace t
  trace_form Twice reached t trace = absurd trace
  trace_form (Live revs) reached t trace =
      let fits =
      kept_below (calculus s) (counts s) (main s fuel) amount (spends_forks s) StateFits kept
      (main_fits s fuel well.small written) (Live revs) reached in
      let shaped =
      kept_law (calculus s) (main s fuel) (IsShaped s) (shape_kept s) (main_shaped s fuel) (Live revs) reached in
      let m = main_among revs t.parts trace (standing_law (calculus s) (main s fuel) (Live revs) reached).main in
      record {
        each = all_of t.parts (part_form revs t.parts trace fits shaped);
        order = main_is_last t.parts trace.0 m.0 m.1 m.2;
      }

pub traces_have_form : TracesHaveForm
traces_have_form s fuel well written inputs most rs g t complete trace =
    trace_form s fuel well written inputs most g (record { by = rs; runs = complete.runs }) t trace

-- The calculus keeps what the theorem on audits wants, and so has it.
use Rattle.std.proofs.Common.{◌≡◌, ℕ, ◌+◌, ◌≤◌, Bool, true, false, ◌&&◌, List, [], ◌∷◌, ◌++◌, map, length, Option, Some, None, refl, sym, ap, ◌∙◌, subst, arith}
use Rattle.std.proofs.lemmas.Bool.{and_from, le-leb}
use Rattle.std.proofs.lemmas.List.{length-map}
use Rattle.std.specs.Prelude.{nat_le}
use Rattle.rev_num.specs.Path.{Path}
use Rattle.typed_programs.specs.Layout.{variables}
use Rattle.revision_machine.specs.PathMap.{PathMap}
use Rattle.revision_machine.specs.Machine.{Moves, Forks, Joins, Ended}
use Rattle.revision_machine.specs.Conditions.{IsKept}
use Rattle.revision_machine.proofs.Blocked.{no_blocked_end}
use Rattle.revision_calculus.specs.Program.{Setting}
use Rattle.revision_calculus.specs.State.{Noted, forked, joined, Phase, Local}
use Rattle.revision_calculus.specs.Step.{next}
use Rattle.revision_calculus.specs.Join.{join}
use Rattle.revision_calculus.specs.Calculus.{main, calculus}
use Rattle.revision_calculus.specs.Outcome.{show_all}
use Rattle.revision_calculus.specs.KeptBySteps.{location_count, IsTrapBelow, IsShaped}
use Rattle.revision_calculus.specs.Kinded.{IsAccepted, location_kinds, IsKinded}
use Rattle.revision_calculus.specs.HandlesHeld.{Holds}
use Rattle.revision_calculus.proofs.Events.{ended_phase}
use Rattle.revision_calculus.proofs.Joining.{join_forks}
use Rattle.revision_calculus.proofs.Meets.{counts, handles, spends_forks, main_holds_none}
use Rattle.revision_calculus.proofs.Shapes.{shape_kept, main_shaped}
use Rattle.revision_calculus.proofs.StepKinds.{kind_kept, main_kinded}
use Rattle.determinacy.proofs.Joining.{join_same}
use Rattle.audit_rules.specs.Audited.{Telling, Tells, YesIsTrue, TraceIsYes, OneComputed, OneVerdict}
use Rattle.trace_diagram.specs.declared.diagram.Part.{Part}
use Rattle.audit_rules.specs.Parts.{places, changes, end_at, part_of, told_phase, told, changes_fit, takes_in, takes, event_of, joins_of, joined_by, calculus_parts, IsApart}
use Rattle.audit_rules.proofs.OneOwnRun.{none_some}
use Rattle.audit_rules.proofs.NotedEvents.{Lists, event_lists, join_noted}
use Rattle.audit_rules.proofs.ToldSuffices.{told_same, told_ended, true_fits, takes_shown}
use Rattle.audit_rules.proofs.PlacesApart.{places_apart}
use Rattle.audit_rules.proofs.Theorem.{Audits, yes_law, trace_law, computed_law, verdict_law}
use Rattle.revision_calculus.proofs.Placed.{values_count}

-- ---- lists of joins

joins_append : (es fs : List Noted) → joined_by (es ++ fs) ≡ joined_by es ++ joined_by fs
joins_append [] fs = refl
joins_append (forked q n ∷ es) fs = joins_append es fs
joins_append (joined q n ∷ es) fs = ap (λ x. q ∷ x) (joins_append es fs)

fork_joins : (es : List Noted) (q : Path) (n : ℕ) → joined_by (es ++ forked q n ∷ []) ≡ joined_by es
fork_joins [] q n = refl
fork_joins (forked p k ∷ es) q n = fork_joins es q n
fork_joins (joined p k ∷ es) q n = ap (λ x. p ∷ x) (fork_joins es q n)

-- a part lists the joins that its state lists
events_join : (es : List Noted) → joins_of (map event_of es) ≡ joined_by es
events_join [] = refl
events_join (forked p k ∷ es) = events_join es
events_join (joined p k ∷ es) = ap (λ x. p ∷ x) (events_join es)

-- ---- places

module _ (s : Setting) where
  pub places_length : length (places s) ≡ location_count s
  places_length = length-map (show_all (variables s.program) []) _ ∙ values_count [] s.program.declarations []

  -- what every revision keeps
  abbrev pub IsFit : Path → Local → Type 0
  IsFit r l = IsKinded s r l × IsShaped s r l

  module _ (fuel : ℕ) where
    abbrev pub T : Telling (calculus s)
    T = calculus_parts s fuel

    -- what was taken
    taken_is : (r q : Path) (l l' : Local) (p : Part) → takes s fuel r l q p ≡ Some l'
        → (j : Local) × (l' ≡ join s r l q j)
    taken_is r q l l' p e =
        go (told_phase (places s) p.end)
        (changes_fit (places s) (location_kinds s) p.written && nat_le (p.fuel + l.fuel + l.forks) fuel) e
      where
        go : (o : Option Phase) (b : Bool) → takes_in s r l q p o b ≡ Some l' → (j : Local) × (l' ≡ join s r l q j)
        go None b e = none_some e
        go (Some ph) false e = none_some e
        go (Some ph) true e = (told s p ph, (let is : join s r l q (told s p ph) ≡ l' = cc in sym is))

    join_lists : (r q : Path) (l j : Local) → joined_by (join s r l q j).noted ≡ joined_by l.noted ++ q ∷ []
    join_lists r q l j = ap joined_by (join_noted s r l q j) ∙ joins_append l.noted (joined q l.line ∷ [])

    module _ (well : IsAccepted s.program) where
      apart : IsApart (places s)
      apart = places_apart s well

      part_taken : (r q : Path) (l lq : Local) → IsFit r l → IsFit q lq → next s r l ≡ Joins q → next s q lq ≡ Ended
          → (l.fuel + l.forks) + (lq.fuel + lq.forks) ≤ fuel
          → takes s fuel r l q (part_of s q lq) ≡ Some (join s r l q lq)
      part_taken r q l lq h hq does ended room =
          (λ i. takes_in s r l q (part_of s q lq) (phase i) (fits i))
          ∙ ap Some (join_same s r q l lq (told s (part_of s q lq) lq.phase)
          (told_same (places s) (location_kinds s) lq.locations apart (hq.1.locations ∙ sym places_length)
          hq.0.locations)
          refl refl refl)
        where
          phase : told_phase (places s) (end_at (places s) lq.phase) ≡ Some lq.phase
          phase = told_ended (places s) lq.phase apart
              (subst (λ n. IsTrapBelow n lq.phase) (sym places_length) hq.1.trap) (ended_phase s q lq ended q None).0
              (λ k left. (ended_phase s q lq ended k left).1)

          few : nat_le (lq.fuel + l.fuel + l.forks) fuel ≡ true
          few = le-leb (lq.fuel + l.fuel + l.forks) fuel (omega arith)

          fits : (changes_fit (places s) (location_kinds s) (changes (places s) lq.locations)
              && nat_le (lq.fuel + l.fuel + l.forks) fuel)
              ≡ true
          fits = and_from _ _ (true_fits (places s) (location_kinds s) lq.locations apart hq.0.locations) few

      pub tells : Tells (calculus s) T IsFit (λ l. l.fuel + l.forks) fuel
      tells = record {
        moves = λ r l l' e. ap joined_by (moves_of r l l' (event_lists s r l e));
        forker = λ r l l' c e. forker_of r l l' c (event_lists s r l e);
        forked = λ r l l' c e. ap joined_by (forked_of r l l' c (event_lists s r l e));
        joins = λ r q l lq e f. join_lists r q l lq;
        takes-lists = λ r q l l' p e t.
            (let is = taken_is r q l l' p t in ap (λ v. joined_by v.noted) is.1 ∙ join_lists r q l is.0);
        takes-forks =
            λ r q l l' p e t. (let is = taken_is r q l l' p t in ap (λ v. v.forks) is.1 ∙ join_forks s r l q is.0);
        takes-same = λ r q l p p' e.
            takes_shown s fuel r q l p ∙ ap (takes s fuel r l q) e ∙ sym (takes_shown s fuel r q l p');
        joins-same = λ p p' e. ap (λ v. joins_of v.events) e;
        part-joins = λ r l. events_join l.noted;
        true-part = part_taken;
      }
        where
          moves_of : (r : Path) (l l' : Local) → Lists r l.noted (Moves l') → l'.noted ≡ l.noted
          moves_of r l l' h = h

          forker_of : (r : Path) (l l' c : Local) → Lists r l.noted (Forks l' c)
              → joined_by l'.noted ≡ joined_by l.noted
          forker_of r l l' c h = ap joined_by h.0.2 ∙ fork_joins l.noted _ h.0.1

          forked_of : (r : Path) (l l' c : Local) → Lists r l.noted (Forks l' c) → c.noted ≡ []
          forked_of r l l' c h = h.1

      fit_kept : IsKept (calculus s) IsFit
      fit_kept =
          let kinds = kind_kept s well in
          let shapes = shape_kept s in
          record {
            moves = λ r l l' h e. (kinds.moves r l l' h.0 e, shapes.moves r l l' h.1 e);
            forker = λ r l l' c h e. (kinds.forker r l l' c h.0 e, shapes.forker r l l' c h.1 e);
            forked = λ r l l' c h e. (kinds.forked r l l' c h.0 e, shapes.forked r l l' c h.1 e);
            joins = λ r q l lq h hq e f. (kinds.joins r q l lq h.0 hq.0 e f, shapes.joins r q l lq h.1 hq.1 e f);
          }

      pub audits : Audits (calculus s) T IsFit (λ l. l.fuel + l.forks) (main s fuel)
      audits = record {
        counts = counts s;
        spends = spends_forks s;
        kept = fit_kept;
        first = (main_kinded s well fuel, main_shaped s fuel);
        tells = all;
        lists_none = refl;
        forks_none = refl;
        unblocked = no_blocked_end (calculus s) (main s fuel) Holds (counts s) (handles s) (main_holds_none s fuel);
      }
        where
          enough : (main s fuel).fuel + (main s fuel).forks ≡ fuel
          enough = omega arith

          all : Tells (calculus s) T IsFit (λ l. l.fuel + l.forks) ((main s fuel).fuel + (main s fuel).forks)
          all = subst (Tells (calculus s) T IsFit (λ l. l.fuel + l.forks)) (sym enough) tells

      -- a Yes says the trace of every complete run
      pub yes_is_true : YesIsTrue (calculus s) T (main s fuel)
      yes_is_true = yes_law (calculus s) T IsFit (λ l. l.fuel + l.forks) (main s fuel) audits

      pub trace_is_yes : TraceIsYes (calculus s) T (main s fuel)
      trace_is_yes = trace_law (calculus s) T IsFit (λ l. l.fuel + l.forks) (main s fuel) audits

      pub one_computed : OneComputed (calculus s) T (main s fuel)
      one_computed = computed_law (calculus s) T IsFit (λ l. l.fuel + l.forks) (main s fuel) audits

      pub one_verdict : (stated : PathMap Part) → OneVerdict (calculus s) T (main s fuel) stated
      one_verdict = verdict_law (calculus s) T IsFit (λ l. l.fuel + l.forks) (main s fuel) audits

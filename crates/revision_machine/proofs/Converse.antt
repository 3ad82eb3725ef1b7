-- Complete runs, where one machine does what another does.
use Rattle.std.proofs.Common.{◌≡◌, ◌≢◌, true, List, [], ◌++◌, Option, Some, None, replicate, refl, sym, ap, ◌∙◌, subst}
use Rattle.std.proofs.lemmas.Bool.{true≢false}
use Rattle.rev_num.specs.Path.{Path, before}
use Rattle.revision_machine.specs.PathMap.{with_at}
use Rattle.revision_machine.specs.Machine.{Event, Moves, Forks, Joins, Ended, Machine, Entry, Plain, Joined, Global, Twice, Live, Revisions, start, step, step_at, happens, join_at, join_ended, Runs, Final, Reached}
use Rattle.revision_machine.specs.Conditions.{Counts, Handles, HoldsNone}
use Rattle.revision_machine.specs.Laws.{AllEnded, UniqueEnd}
use Rattle.revision_machine.specs.Simulation.{Simulates, EntryAgrees, Agrees, UnblockedLaw, CompleteLaw, SameEnd}
use Rattle.revision_machine.proofs.Paths.{at_here, at_other}
use Rattle.rev_num.proofs.PostOrder.{before_irrefl}
use Rattle.rev_num.proofs.Options.{none_some}
use Rattle.revision_machine.proofs.Blocked.{handle_law, going_on, waits_at, all_ended}
use Rattle.revision_machine.proofs.SimulatedRuns.{runs_on, quietly, plain_of, run_law, final_of}
use Rattle.revision_machine.proofs.Bearing.{runs_of}

module _ (A B : Machine) (R : Path → A.Local → B.Local → Type 0) (Known : Path → Type 0) (a : A.Local)
    (b : B.Local) where
  module _ (sim : Simulates A B R Known) (holds : A.Local → Path → Type 0) (counts : Counts A) (H : Handles A holds)
      (none : HoldsNone A holds a) where
    -- one of B that has not ended waits for one before it, as it does in A
    waits_for : (by : List Path) (u : Revisions A) (v : Revisions B) → Runs A (start A a) by (Live u)
        → ((p : Path) → EntryAgrees A B R p (u p) (v p)) → Final B (Live v) → (r : Path) → waits_at B r (v r) ≡ true
        → (q : Path) × (waits_at B q (v q) ≡ true) × (before q r ≡ true)
    waits_for by u v runs agrees final r w = of_entry (v r) refl w
      where
        Found : Type 0
        Found = (q : Path) × (waits_at B q (v q) ≡ true) × (before q r ≡ true)

        at_join : (y : B.Local) (q : Path) → v r ≡ Some (Plain y) → B.next r y ≡ Joins q
            → step B (Live v) r ≡ join_at B v r y q (v q)
        at_join y q here does = ap (step_at B v r) here ∙ ap (happens B v r y) does

        of_target : (y : B.Local) (q : Path) → v r ≡ Some (Plain y) → B.next r y ≡ Joins q → before q r ≡ true
            → (e : Entry A.Local) → u q ≡ Some e → (f : Option (Entry B.Local)) → v q ≡ f
            → EntryAgrees A B R q (u q) (v q) → Found
        of_target y q here does earlier e there None f h =
            absurd (subst (λ t. EntryAgrees A B R q (Some e) t) f (subst (λ t. EntryAgrees A B R q t (v q)) there h))
        of_target y q here does earlier e there (Some (Joined z)) f h =
            none_some (sym (final r) ∙ at_join y q here does ∙ ap (join_at B v r y q) f)
        of_target y q here does earlier e there (Some (Plain z)) f h = of_next (B.next q z) refl
          where
            found : going_on B (B.next q z) ≡ true → Found
            found g = (q, ap (waits_at B q) f ∙ g, earlier)

            of_next : (n : Event B.Local) → B.next q z ≡ n → Found
            of_next Ended g =
                none_some
                (sym (final r) ∙ at_join y q here does ∙ ap (join_at B v r y q) f ∙ ap (join_ended B v r y q z) g)
            of_next (Moves _) g = found (ap (going_on B) g)
            of_next (Forks _ _) g = found (ap (going_on B) g)
            of_next (Joins _) g = found (ap (going_on B) g)

        of_event : (y : B.Local) → v r ≡ Some (Plain y) → (n : Event B.Local) → B.next r y ≡ n → going_on B n ≡ true
            → Found
        of_event y here Ended f e = absurd (true≢false (sym e))
        of_event y here (Moves _) f e = none_some (sym (final r) ∙ ap (step_at B v r) here ∙ ap (happens B v r y) f)
        of_event y here (Forks _ _) f e = none_some (sym (final r) ∙ ap (step_at B v r) here ∙ ap (happens B v r y) f)
        of_event y here (Joins q) f e =
            let x = plain_of A B R r (u r) y (subst (λ t. EntryAgrees A B R r (u r) t) here (agrees r)) in
            let m = sim.joins r q x.state y x.related f in
            let s = quietly A r x.state m.before m.quiet u x.is in
            let mid : Revisions A = with_at u r (Plain m.before) in
            let reached : Reached A a (Live mid) = record {
              by = by ++ replicate s.times r;
              runs = runs_on A by (replicate s.times r) (start A a) (Live u) (Live mid) runs s.alone;
            } in
            let below =
            handle_law A a holds counts H none (Live mid) reached r q (Plain m.before) (at_here u r (Plain m.before))
            (H.wants r q m.before m.joins) in
            let apart : r ≢ q = λ t. before_irrefl q (subst (λ k. before q k ≡ true) t below.earlier) in
            of_target y q here f below.earlier below.entry (sym (at_other u r (Plain m.before) q apart) ∙ below.stands)
            (v q) refl (agrees q)

        of_entry : (e : Option (Entry B.Local)) → v r ≡ e → waits_at B r e ≡ true → Found
        of_entry None here e = absurd (true≢false (sym e))
        of_entry (Some (Joined y)) here e = absurd (true≢false (sym e))
        of_entry (Some (Plain y)) here e = of_event y here (B.next r y) refl e

    pub unblocked_law : R [] a b → Counts B → UnblockedLaw A B R Known a b
    unblocked_law related counts_b ws cs w runs known final =
        go w (run_law A B R Known a b sim related ws cs w runs known) (runs_of B ws (start B b) w cs runs) final
      where
        of_state : (by : List Path) (g : Global A.Local) (v : Revisions B) → Runs A (start A a) by g
            → Agrees A B R g (Live v) → Runs B (start B b) ws (Live v) → Final B (Live v) → AllEnded B (Live v)
        of_state by Twice v one agrees two final = absurd agrees
        of_state by (Live u) v one agrees two final =
            all_ended B b counts_b v (record { by = ws; runs = two }) (waits_for by u v one agrees final)

        go : (w : Global B.Local) → (rs : List Path) × (g : Global A.Local) × Runs A (start A a) rs g × Agrees A B R g w
            → Runs B (start B b) ws w → Final B w → AllEnded B w
        go Twice run two final = tt
        go (Live v) run two final = of_state run.0 run.1 v run.2 run.3 two final

    pub complete_law : R [] a b → Counts B → CompleteLaw A B R Known a b
    complete_law related counts_b ws cs w runs known final =
        let run = run_law A B R Known a b sim related ws cs w runs known in
        let ended = unblocked_law related counts_b ws cs w runs known final in
        (run.0, run.1, record { runs = run.2; final = final_of A B R Known sim run.1 w run.3 ended }, run.3)

  pub same_end : CompleteLaw A B R Known a b → UniqueEnd A a → SameEnd A B R Known a b
  same_end complete unique rs ws cs g w one runs known final =
      let other = complete ws cs w runs known final in
      let is : g ≡ other.1 = unique (start A a) g other.1 rs other.0 (record { by = []; runs = refl }) one other.2 in
      subst (λ v. Agrees A B R v w) (sym is) other.3

-- Each program has one outcome.
use Rattle.std.proofs.Common.{◌≡◌, ◌≢◌, ℕ, List, [], Option, Some, None, refl, sym, ap, ◌∙◌, subst}
use Rattle.rev_num.specs.Path.{Path}
use Rattle.rev_num.specs.declared.outcome.Outcome.{Outcome}
use Rattle.rev_num.specs.declared.outcome.Shown.{Shown}
use Rattle.revision_machine.specs.Machine.{Ended, Entry, Plain, Joined, Global, Twice, Live, Complete, Reached, Final}
use Rattle.revision_machine.specs.Laws.{IsStanding}
use Rattle.revision_machine.proofs.Paths.{some_inj}
use Rattle.revision_machine.proofs.Standing.{standing_law}
use Rattle.revision_machine.proofs.Ends.{unique_end}
use Rattle.revision_machine.proofs.Blocked.{no_blocked_end}
use Rattle.revision_machine.proofs.Completion.{completion_law}
use Rattle.typed_programs.specs.Layout.{variables}
use Rattle.revision_calculus.specs.Program.{Setting}
use Rattle.revision_calculus.specs.State.{Phase, running, joining, done, trapped, Local}
use Rattle.revision_calculus.specs.Step.{next}
use Rattle.revision_calculus.specs.Calculus.{main, calculus}
use Rattle.revision_calculus.specs.Outcome.{end_as, main_outcome, show_all, outcome}
use Rattle.revision_calculus.specs.HandlesHeld.{Holds, weight}
use Rattle.revision_calculus.specs.Complete.{start_of, OneOutcome}
use Rattle.revision_calculus.proofs.Events.{ended_phase}
use Rattle.revision_calculus.proofs.Meets.{counts, handles, main_holds_none, spends_weight}

module _ (s : Setting) (fuel : ℕ) where
  -- a revision that has ended is done or trapped
  of_ended : (text : List ℕ) (values : List Shown) (p : Phase) → p ≢ running
      → ((q : Path) (left : Option (List ℕ)) → p ≢ joining q left) → (o : Outcome) × (end_as text values p ≡ Some o)
  of_ended text values running a b = absurd (a refl)
  of_ended text values (joining q left) a b = absurd (b q left refl)
  of_ended text values done a b = (_, refl)
  of_ended text values (trapped t) a b = (_, refl)

  of_local : (l : Local) → next s [] l ≡ Ended
      → (o : Outcome) × (end_as l.text (show_all (variables s.program) l.locations) l.phase ≡ Some o)
  of_local l e =
      of_ended l.text (show_all (variables s.program) l.locations) l.phase (ended_phase s [] l e [] None).0
      (λ q left. (ended_phase s [] l e q left).1)

  -- a final state has an outcome
  of_final : (g : Global Local) → Reached (calculus s) (main s fuel) g → Final (calculus s) g
      → (o : Outcome) × (outcome s g ≡ Some o)
  of_final Twice reached final = (_, refl)
  of_final (Live revs) reached final = go (stands.main.0) stands.main.1
    where
      stands : IsStanding (calculus s) revs
      stands = standing_law (calculus s) (main s fuel) (Live revs) reached

      go : (e : Entry Local) → revs [] ≡ Some e → (o : Outcome) × (outcome s (Live revs) ≡ Some o)
      go (Plain l) there =
          let x = of_local l ((no_blocked_end (calculus s) (main s fuel) Holds (counts s) (handles s)
          (main_holds_none s fuel) (Live revs) reached final).each
          [] (Plain l) there) in
          (x.0, ap (main_outcome s) there ∙ x.1)
      go (Joined l) there = let x = of_local l (stands.marked [] l there) in (x.0, ap (main_outcome s) there ∙ x.1)

  here : Reached (calculus s) (main s fuel) (start_of s fuel)
  here = record { by = []; runs = refl }

  pub one_outcome : OneOutcome s fuel
  one_outcome =
      let whole =
      completion_law (calculus s) (main s fuel) weight (counts s) (spends_weight s) (start_of s fuel) here in
      let run : Complete (calculus s) (start_of s fuel) whole.0 whole.1 = whole.2 in
      let x = of_final whole.1 (record { by = whole.0; runs = run.runs }) run.final in
      record {
        is = x.0;
        has = record {
          by = whole.0;
          end = whole.1;
          complete = run;
          each = λ rs g c.
              subst (λ h. outcome s h ≡ Some x.0)
              (unique_end (calculus s) (main s fuel) (counts s) (start_of s fuel) whole.1 g whole.0 rs here run c) x.1;
        };
        only = λ o h. some_inj (sym (h.each whole.0 whole.1 run) ∙ x.1);
      }

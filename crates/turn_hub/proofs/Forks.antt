-- A fork at one moment, and the child that the seat takes at once.
use Rattle.std.proofs.Common.{◌≡◌, inl, ℕ, suc, ◌<◌, List, [], ◌∷◌, ◌++◌, length, refl, sym, ap, ◌∙◌, subst, arith, Some}
use Rattle.revision_machine.specs.Numbered.{at_number}
use Rattle.revision_machine.proofs.Paths.{some_inj}
use Rattle.revision_machine.proofs.Lists.{at_length}
use Rattle.hub_core.specs.declared.status.Status.{Status}
use Rattle.hub_core.specs.declared.status.Status.TheVariants.{Ready, Out}
use Rattle.hub_core.specs.HubMachine.{HubMachine, numbered, values}
use Rattle.hub_core.specs.declared.view.View.{View}
use Rattle.hub_core.specs.declared.view.Said.TheVariants as mark
use Rattle.hub_core.specs.Hub.{Forks}
use Rattle.hub_core.specs.Replay.{state_after}
use Rattle.hub_core.specs.Passes.{named}
use Rattle.hub_core.specs.Seats.{HasFork, HasWorld, LacksPass}
use Rattle.hub_core.specs.Views.{commits, draws, rests}
use Rattle.hub_core.specs.Rule.{says}
use Rattle.hub_core.proofs.Passes.{pass_named}
use Rattle.hub_core.proofs.Rests.{keeps_draw}
use Rattle.hub_core.proofs.Moments.{Moment, out_at, state_at, fork_moment, draw_moment}
use Rattle.turn_hub.specs.Answers.{Forked}
use Rattle.turn_hub.specs.Keeping.{ForkedOn}
use Rattle.turn_hub.proofs.Finding.{Found, has_pass, to_pass, keeps_commit}

module _ {L R A E : Type 0} (d : HubMachine L R A E) (ends : E → L → Type 0) where
  abbrev V : Type 0
  V = View L

  abbrev Slots : Type 0
  Slots = List (Status R A E)

  pub length_says : (slots : Slots) → length (says d ends slots) ≡ length slots
  length_says [] = refl
  length_says (x ∷ slots) = ap suc (length_says slots)

  -- what the hub kept when the seat gave its turn back
  pub world_at : (start : L) (u : V) (slots : Slots) (fs lone mine : List ℕ) → u.start ≡ Some start
      → Moment d ends start u slots fs lone mine → HasWorld d ends (rests u)
  world_at start u slots fs lone mine begun m = record {
    start = start;
    begun = begun;
    slots = slots;
    forkers = fs;
    tied = m.tied;
    fresh = m.current.0;
    out = λ k at p. out_at d ends start u slots fs lone mine m k (pass_named u.passes k at p);
  }

  module _ {v y : V} {slots : Slots} (f : Found d ends v y slots) (start : L) (begun : y.start ≡ Some start)
      (fs lone mine : List ℕ) (m : Moment d ends start y slots fs lone mine) (k : ℕ) (c : R)
      (event : HasFork d ends v k c) where
    abbrev y1 : V
    y1 = commits k y

    has_k : 0 < named k y.passes
    has_k = has_pass d ends f k event.1 event.3

    abbrev forks_now : (p : HasFork d ends v k c) → Forks (numbered d) (values d ends) start y.log k c
    forks_now p = record {
      state = p.4.state;
      forker = p.4.forker;
      stands = state_at d ends start y slots fs lone mine m k p.1 p.4.state (to_pass d ends f k p.1 p.3)
          (subst (λ s. state_after (numbered d) s p.1 k ≡ Some p.4.state)
          (some_inj (sym p.2 ∙ (sym f.start ∙ begun))) p.4.stands);
      bears = p.4.bears;
    }

    after : (p : HasFork d ends v k c) → Moment d ends start y1 (slots ++ Ready c ∷ []) (fs ++ k ∷ []) lone mine
        × (state_after (numbered d) start (y.log ++ k ∷ []) k ≡ Some (p.4.forker (length slots)))
        × (state_after (numbered d) start (y.log ++ k ∷ []) (length slots) ≡ Some (d.runs c))
    after p = fork_moment d ends start y slots fs lone mine m k c has_k (forks_now p)

    pub fork_after : Moment d ends start y1 (slots ++ Ready c ∷ []) (fs ++ k ∷ []) lone mine
    fork_after = (after event).0

    pub forked_says : Forked d ends v (rests y1) k c (length slots)
    forked_says = record {
      free = f.entered;
      keeps = keeps_commit d ends f k;
      entry = ap (λ l. l ++ k ∷ []) (sym f.found);
      next = sym (length_says slots) ∙ sym (ap length f.said);
      forker = λ p. (start, y1.log, begun, inl (refl, refl), (after p).1);
      child = (start, y1.log, begun, inl (refl, refl), (after event).2);
      world = world_at start y1 (slots ++ Ready c ∷ []) (fs ++ k ∷ []) lone mine begun fork_after;
    }

    -- the child stands there, ready
    child_at : at_number (slots ++ Ready c ∷ []) (length slots) ≡ Some (Ready c)
    child_at = at_length slots (Ready c) []

    no_pass : LacksPass (rests y1) (length slots)
    no_pass at p =
        let e : Some Out ≡ Some (Ready c) =
        sym (out_at d ends start y1 (slots ++ Ready c ∷ []) (fs ++ k ∷ []) lone mine fork_after (length slots)
        (pass_named y1.passes (length slots) at p)) ∙ child_at in
        absurd cc

    pub forked_on_says : d.runner_group c ≡ y.group
        → ForkedOn d ends v (rests (draws (length slots) y1)) k c (length slots) c
    forked_on_says group =
        let n = length slots in
        let taken =
        draw_moment d ends start y1 (slots ++ Ready c ∷ []) (fs ++ k ∷ []) lone mine fork_after n c lone mine child_at
        (λ j. omega arith) (λ j. omega arith) in
        let long : n ≡ length y.said = sym (length_says slots) ∙ sym (ap length f.said) in
        record {
          between = rests y1;
          forked = forked_says;
          same = record { said = refl; entered = refl; found = refl; log = refl; saw = refl; halt = refl };
          lacked = no_pass;
          ran = record {
            free = f.entered;
            keeps = keeps_draw d ends y1 n;
            was = ap (at_number (y.said ++ mark.Ready ∷ [])) long ∙ at_length y.said mark.Ready [];
            state = (start, y1.log, begun, inl (refl, refl), taken.1);
            group = group;
          };
          world = world_at start (draws n y1) _ (fs ++ k ∷ []) lone mine begun taken.0;
        }

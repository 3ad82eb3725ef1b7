-- What is told of a joiner that is taken and joins at the same moment.
use Rattle.std.proofs.Common.{◌≡◌, ◌≢◌, inl, inr, ℕ, ◌<◌, true, List, [], ◌∷◌, ◌++◌, refl, sym, ap, ◌∙◌, subst, arith, Option, Some}
use Rattle.revision_machine.specs.Numbered.{at_number, put_number}
use Rattle.revision_machine.proofs.Lists.{put_here, put_other}
use Rattle.hub_core.specs.declared.status.Status.{Status}
use Rattle.hub_core.specs.declared.status.Status.TheVariants.{Out, Waiting, Over, Gone}
use Rattle.hub_core.specs.declared.state.HubState.TheVariants.{All, Twice}
use Rattle.hub_core.specs.declared.view.Said.TheVariants as mark
use Rattle.hub_core.specs.declared.view.View.{View}
use Rattle.hub_core.specs.Hub.{Joins}
use Rattle.hub_core.specs.HubMachine.{HubMachine, numbered, values}
use Rattle.hub_core.specs.Found.{ended_here}
use Rattle.hub_core.specs.Passes.{named, left}
use Rattle.hub_core.specs.Rule.{says}
use Rattle.hub_core.specs.Seats.{KeepsOthers}
use Rattle.hub_core.specs.Views.{commits, draws, rests, sees, stops}
use Rattle.hub_core.proofs.Hub as hub
use Rattle.hub_core.proofs.Lists.{is_at_same}
use Rattle.hub_core.proofs.Passes.{pass_left, left_pass, pass_behind}
use Rattle.hub_core.proofs.Moments.{Moment, retry_moment, join_moment}
use Rattle.turn_hub.specs.declared.answers.JoinAnswer.{JoinAnswer}
use Rattle.turn_hub.specs.declared.answers.JoinAnswer.TheVariants as join
use Rattle.turn_hub.specs.Answers.{TookIn, HasMet, MetTwice, TakesIn, JoinSays, CameOn}
use Rattle.turn_hub.proofs.Says.{says_put, takes_says, come_says, where_run}
use Rattle.turn_hub.proofs.Heads.{still_over, first_retried}

module _ {L R A E : Type 0} (d : HubMachine L R A E) (ends : E → L → Type 0) where
  abbrev Slots : Type 0
  Slots = List (Status R A E)

  module _ (start : L) (u : View L) (slots : Slots) (fs lone mine : List ℕ)
      (m : Moment d ends start u slots fs lone mine) (free : u.entered ≡ All) (begun : u.start ≡ Some start)
      {C S : Type 0} (claimed : C → A → E → Type 0) (stopped : S → A → E → Type 0) (group : C → List ℕ)
      (halted : S → List ℕ) (n : ℕ) (a : A) where
    abbrev u2 : View L
    u2 = draws n u

    abbrev slots2 : Slots
    slots2 = put_number slots n Out

    module _ (waits : at_number slots n ≡ Some (Waiting a)) where
      drawn : Moment d ends start u2 slots2 fs lone mine × Joins (numbered d) (values d ends) start u.log n a
      drawn = retry_moment d ends start u slots fs lone mine m n a waits

      pos : 0 < named n u2.passes
      pos = let i = is_at_same n in omega arith

      out_n : at_number slots2 n ≡ Some Out
      out_n = put_here slots n (Waiting a) Out waits

      said_two : says d ends slots2 ≡ put_number (says d ends slots) n mark.Out
      said_two = says_put d ends slots n Out

      keeps_two : KeepsOthers (rests u2) (rests (commits n u2)) n
      keeps_two = (
        (refl, refl, refl),
        λ j at ne p. inr (pass_left n u2.passes j at p ne),
        λ j at ne p. (left_pass n u2.passes j at (pass_behind (n, u.log ++ n ∷ []) (left n u2.passes) j at p ne)).0,
        λ q. refl,
      )

      -- it takes in an end
      pub came_says : (e : E) → at_number slots2 (d.on a) ≡ Some (Over e) → d.joiner_group a ≡ u.group
          → (r : JoinAnswer A C S) → TakesIn d ends claimed stopped group halted a e r
          → CameOn d ends claimed stopped group halted (says d ends slots) (rests u) (rests (commits n u2)) n r
      came_says e over own r takes =
          let got = join_moment d ends start u2 slots2 fs lone mine drawn.0 n a e pos drawn.1 over in
          let z : View L = sees (says d ends slots2) u.log (rests (commits n u2)) in
          let took : TookIn d ends (rests u2) z n (d.joined a e) = record {
            free = free;
            keeps = keeps_two;
            entry = refl;
            state = (start, u.log ++ n ∷ [], begun, inl (refl, refl), got.1);
          } in
          let met : HasMet d ends z n a e = (
            start,
            begun,
            hub.meets (numbered d) (values d ends) start u.log slots2 fs drawn.0.tied n a e out_n drawn.1 over,
          ) in
          record {
            at = a;
            drawn = rests u2;
            same = record { said = refl; entered = refl; found = refl; log = refl; saw = refl; halt = refl };
            retried = first_retried d ends start u slots fs lone mine m free begun n a waits (ended e over) own;
            come = come_says d ends claimed stopped group halted a e r takes;
            says = subst
                (λ s. JoinSays d ends claimed stopped group halted (rests u2) (sees s u.log (rests
                (commits n u2))) n a r)
                said_two
                (takes_says d ends claimed stopped group halted (rests u2) z slots2 n a e r takes took met own refl
                over);
          }
        where
          clash : (e : E) → ◌≡◌ {A = Option (Status R A E)} (Some (Over e)) (Some Out) → ⊥
          clash e q = cc

          apart : (e : E) → at_number slots2 (d.on a) ≡ Some (Over e) → d.on a ≢ n
          apart e over is = clash e (sym over ∙ (ap (at_number slots2) is ∙ out_n))

          ended : (e : E) → at_number slots2 (d.on a) ≡ Some (Over e) → ended_here (at_number slots (d.on a)) ≡ true
          ended e over = ap ended_here (sym (put_other slots n (d.on a) Out (apart e over)) ∙ over)

      -- its joinee was joined: the last entry
      pub twice_says : at_number slots (d.on a) ≡ Some Gone → d.joiner_group a ≡ u.group → u.halt ≡ All
          → CameOn d ends claimed stopped group halted (says d ends slots) (rests u) (rests (stops Twice
          (commits n u2))) n
          (join.Twice a)
      twice_says gone own all =
          let z : View L = sees (says d ends slots2) u.log (rests (stops Twice (commits n u2))) in
          let met : MetTwice d ends (rests u2) z n a = record {
            free = free;
            keeps = (keeps_two.0, keeps_two.1, keeps_two.2, λ q. absurd (q all));
            entry = refl;
            joined = where_run d ends (says d ends slots2) slots2 (d.on a) Gone refl
                (still_over d ends slots n a Gone waits refl gone);
            halt = refl;
            saw = refl;
          } in
          record {
            at = a;
            drawn = rests u2;
            same = record { said = refl; entered = refl; found = refl; log = refl; saw = refl; halt = refl };
            retried = first_retried d ends start u slots fs lone mine m free begun n a waits (ap ended_here gone) own;
            come = tt;
            says = subst
                (λ s. JoinSays d ends claimed stopped group halted (rests u2)
                (sees s u.log (rests (stops Twice (commits n u2)))) n a (join.Twice a))
                said_two (refl, met);
          }

-- What answers tell, by what a seat finds at the moment at which it makes its entries.
--   Found      of the view before the call: the seat's view as if it had taken the turn then, and the statuses
use Rattle.std.proofs.Common.{◌≡◌, inr, ℕ, ◌<◌, Bool, true, false, List, [], ◌∷◌, ◌++◌, refl, sym, ap, ◌∙◌, subst}
use Rattle.hub_core.specs.declared.status.Status.{Status}
use Rattle.hub_core.specs.declared.state.HubState.TheVariants.{All}
use Rattle.hub_core.specs.HubMachine.{HubMachine}
use Rattle.hub_core.specs.declared.desk.Desk.{Desk}
use Rattle.hub_core.specs.declared.sight.Sight.{Sight}
use Rattle.hub_core.specs.declared.view.View.{View}
use Rattle.hub_core.specs.Passes.{named, left, IsPass}
use Rattle.hub_core.specs.Views.{commits, hands_in, ends_in, rests}
use Rattle.hub_core.specs.Seats.{HasPass, KeepsHalt, KeepsOthers, Owes}
use Rattle.hub_core.specs.Rule.{says}
use Rattle.hub_core.specs.Tally.{found_in}
use Rattle.hub_core.proofs.Passes.{pass_named, pass_left, left_pass, pass_behind}
use Rattle.hub_core.proofs.Rests.{lacks_in, lacks_end}
use Rattle.turn_hub.specs.Answers.{EndedSays}
use Rattle.turn_hub.specs.Turns.{IsIn}

module _ {L R A E : Type 0} (d : HubMachine L R A E) (ends : E → L → Type 0) where
  abbrev V : Type 0
  V = View L

  pub record Found (v w : V) (slots : List (Status R A E)) : Type 0 where
    pub parts : w.parts ≡ v.parts
    pub start : w.start ≡ v.start
    pub group : w.group ≡ v.group
    pub passes : w.passes ≡ v.passes
    pub said : w.said ≡ says d ends slots
    pub entered : w.entered ≡ All
    pub found : w.found ≡ w.log
    pub halt : KeepsHalt v w

  pub found_at : (v w : Sight L) (desk : Desk R A E) (log out : List ℕ) (slots : List (Status R A E))
      → IsIn d ends v w desk → desk.state ≡ All → Found v.seat (found_in log out (says d ends slots) w.seat) slots
  found_at v w desk log out slots h free = record {
    parts = h.same.0;
    start = h.same.1;
    group = h.same.2;
    passes = h.same.3;
    said = refl;
    entered = refl;
    found = refl;
    halt = λ n. h.hand.halt ∙ sym (h.known n);
  }

  -- a pass that the seat had before its call
  pub pass_on : {P : L → List ℕ → Type 0} (v w : V) (k : ℕ) → w.start ≡ v.start → w.passes ≡ v.passes
      → HasPass d ends v k P → HasPass d ends w k P
  pass_on v w k start passes p =
      (p.0, p.1, start ∙ p.2, subst (λ ps. IsPass ps k p.1) (sym passes) p.3, p.4)

  pub owes_on : (v w : V) (i k : ℕ) (l : L) → w.start ≡ v.start → w.passes ≡ v.passes → Owes d ends v i k l
      → Owes d ends w i k l
  owes_on v w i k l start passes owes = record {
    joiner = owes.joiner;
    last = owes.last;
    ended = pass_on v w i start passes owes.ended;
    joins = pass_on v w k start passes owes.joins;
    on = owes.on;
    state = owes.state;
  }

  module _ {v w : V} {slots : List (Status R A E)} (f : Found v w slots) where
    pub to_pass : (j : ℕ) (at : List ℕ) → IsPass v.passes j at → IsPass w.passes j at
    to_pass j at p = subst (λ l. IsPass l j at) (sym f.passes) p

    pub from_pass : (j : ℕ) (at : List ℕ) → IsPass w.passes j at → IsPass v.passes j at
    from_pass j at p = subst (λ l. IsPass l j at) f.passes p

    pub has_pass : (k : ℕ) (at : List ℕ) → IsPass v.passes k at → 0 < named k w.passes
    has_pass k at p = pass_named w.passes k at (to_pass k at p)

    pub keeps_commit : (k : ℕ) → KeepsOthers v (rests (commits k w)) k
    keeps_commit k = (
      (f.start, f.group, f.parts),
      λ j at ne p. inr (pass_left k w.passes j at (to_pass j at p) ne),
      λ j at ne p. from_pass j at
          (left_pass k w.passes j at (pass_behind (k, w.log ++ k ∷ []) (left k w.passes) j at p ne)).0,
      f.halt,
    )

    pub keeps_in : (k : ℕ) → KeepsOthers v (rests (hands_in k w)) k
    keeps_in k = (
      (f.start, f.group, f.parts),
      λ j at ne p. pass_left k w.passes j at (to_pass j at p) ne,
      λ j at ne p. from_pass j at (left_pass k w.passes j at p).0,
      f.halt,
    )

    pub keeps_end : (k : ℕ) → KeepsOthers v (rests (hands_in k (commits k w))) k
    keeps_end k = (
      (f.start, f.group, f.parts),
      λ j at ne p. pass_left k ((k, w.log ++ k ∷ []) ∷ left k w.passes) j at
          (inr (pass_left k w.passes j at (to_pass j at p) ne)) ne,
      λ j at ne p. from_pass j at
          (left_pass k w.passes j at
          (pass_behind (k, w.log ++ k ∷ []) (left k w.passes) j at
          (left_pass k ((k, w.log ++ k ∷ []) ∷ left k w.passes) j at p).0 ne)).0,
      f.halt,
    )

    pub ended_says : (k : ℕ) (b : Bool) → EndedSays d ends v (rests (ends_in b k w)) k b
    ended_says k true = record {
      free = f.entered;
      keeps = keeps_in k;
      gone = lacks_in d ends w k;
      entry = sym f.found;
    }
    ended_says k false = record {
      free = f.entered;
      keeps = keeps_end k;
      gone = lacks_end d ends w k;
      entry = ap (λ l. l ++ k ∷ []) (sym f.found);
    }

-- A seat takes the joinee of its joiner, which comes first and is before its leg.
use Rattle.std.proofs.Common.{◌≡◌, ℕ, ◌<◌, [], ◌∷◌, sym, ap, ◌∙◌, subst, arith, Some, None}
use Rattle.revision_machine.specs.Numbered.{at_number, put_number}
use Rattle.revision_machine.proofs.Paths.{some_inj}
use Rattle.revision_machine.proofs.Numbers.{none_some}
use Rattle.hub_core.specs.declared.status.Status.{Status}
use Rattle.hub_core.specs.declared.status.Status.TheVariants.{Ready, Out, Waiting, Over, Gone}
use Rattle.hub_core.specs.declared.state.HubState.TheVariants.{All}
use Rattle.hub_core.specs.declared.deed.Deed.TheVariants.{Draws}
use Rattle.hub_core.specs.declared.desk.Desk.{Desk}
use Rattle.hub_core.specs.declared.records.Records.{Records}
use Rattle.hub_core.specs.declared.sight.Sight.{Sight}
use Rattle.hub_core.specs.declared.view.View.{View}
use Rattle.hub_core.specs.HubMachine.{HubMachine}
use Rattle.hub_core.specs.Marks.{first_in}
use Rattle.hub_core.specs.Passes.{named}
use Rattle.hub_core.specs.Rule.{says}
use Rattle.hub_core.specs.Seats.{HasWorld}
use Rattle.hub_core.specs.Tally.{record_at, records_of, queue_of, found_in, HasDesk, Entered, gives_back}
use Rattle.hub_core.specs.Views.{draws, rests}
use Rattle.hub_core.proofs.Passes.{pass_named}
use Rattle.hub_core.proofs.Moments.{Moment, draw_moment, out_at}
use Rattle.turn_hub.specs.declared.answers.Onward.{Onward}
use Rattle.turn_hub.specs.declared.answers.Onward.TheVariants as onward
use Rattle.turn_hub.specs.Answers.{TookJoinee}
use Rattle.turn_hub.specs.Turns.{IsIn}
use Rattle.turn_hub.specs.Plans.{IsEntered, HasPlan}
use Rattle.turn_hub.specs.Comings.{IsFirstTaken, TakesFirst}
use Rattle.turn_hub.proofs.Draws.{draw_told, take_hand, take_ran}
use Rattle.turn_hub.proofs.Afters.{start_in, stands_now, moment, out_now}

module _ {R A E : Type 0} where
  abbrev runner_or : R → Status R A E → R
  runner_or b (Ready c) = c
  runner_or b Out = b
  runner_or b (Waiting a) = b
  runner_or b (Over e) = b
  runner_or b Gone = b

  -- what is taken is the runner of this record
  pub runner_taken : (rs rs' : Records R A E) (n : ℕ) (r : R) (next : Onward R A)
      → first_in rs.queue.ready ≡ Some n → record_at rs.list.items n ≡ Some (Ready r) → IsFirstTaken rs rs' next
      → next ≡ onward.Run n r
  runner_taken rs rs' n r (onward.Run i c) first here t =
      let same : i ≡ n = some_inj (sym t.first ∙ first) in
      let got : ◌≡◌ {A = Status R A E} (Ready c) (Ready r) = some_inj (sym t.was ∙ (ap
      (record_at rs.list.items) same ∙ here)) in
      ap (λ (z : ℕ × R). onward.Run z.0 z.1) (λ j. (same j, ap (runner_or c) got j))
  runner_taken rs rs' n r (onward.Retry i a) first here t =
      let same : i ≡ n = some_inj (sym t.first ∙ first) in
      let got : ◌≡◌ {A = Status R A E} (Waiting a) (Ready r) = some_inj (sym t.was ∙ (ap
      (record_at rs.list.items) same ∙ here)) in absurd cc
  runner_taken rs rs' n r onward.Nothing first here t = none_some (sym t.0 ∙ first)

module _ {R A : Type 0} where
  abbrev taken_or : R → Onward R A → R
  taken_or b (onward.Run i c) = c
  taken_or b (onward.Retry i a) = b
  taken_or b onward.Nothing = b

  pub run_same : (next : Onward R A) (i n : ℕ) (c r : R) → next ≡ onward.Run i c → next ≡ onward.Run n r → r ≡ c
  run_same next i n c r e h = ap (taken_or c) (sym h ∙ e)

module _ {L R A E : Type 0} (d : HubMachine L R A E) (ends : E → L → Type 0) where
  module _ (v : Sight L) (desk : Desk R A E) (hand : HasDesk d ends v desk) (free : desk.state ≡ All) (n : ℕ)
      (first : first_in (queue_of desk).ready ≡ Some n) (r : R) (here : record_at (records_of desk) n ≡ Some (Ready r))
      (w : Sight L) (count : ℕ) (plan : HasPlan desk (Draws n ∷ []) None None)
      (told : IsEntered d ends v w desk None count) where
    abbrev start : L
    start = (start_in d ends v desk hand).0

    abbrev t : Entered d ends v w start hand.slots (Draws n ∷ []) None v.mine (λ l. l) count
    t = draw_told d ends v desk hand free n first w count plan told

    abbrev u : View L
    u = found_in t.log t.out (says d ends t.slots) v.seat

    ready_now : at_number t.slots n ≡ Some (Ready r)
    ready_now =
        ((stands_now d ends v desk hand start t.log t.out t.lone t.slots t.forkers t.now).shadows.recorded n (Ready r)
        here).0

    pub joinee_hand : (two : Records R A E) (next : Onward R A) → IsFirstTaken desk.records two next →
        (desk' : Desk R A E)
        → desk'.records ≡ two → desk'.journal ≡ desk.journal → desk'.state ≡ desk.state → desk'.lent ≡ desk.lent
        → desk'.strays ≡ desk.strays → HasDesk d ends w desk'
    joinee_hand two next taken desk' records journal state lent strays =
        let is = runner_taken desk.records two n r next first here taken in
        let f : TakesFirst desk.records two n (Ready r) = subst (IsFirstTaken desk.records two) is taken in
        let g : TakesFirst desk.records desk'.records n (Ready r) =
        subst (λ (z : Records R A E). TakesFirst desk.records z n (Ready r)) (sym records) f in
        take_hand d ends v desk hand free n first w count plan told desk' g.list g.takes g.same journal state lent
        strays

    world : HasWorld d ends (rests (draws n u))
    world =
        let m = moment d ends v desk hand start t.log t.out t.lone t.slots t.forkers t.now in
        let after : Moment d ends start (draws n u) (put_number t.slots n Out) t.forkers t.lone v.mine =
        (draw_moment d ends start u t.slots t.forkers t.lone v.mine m n r t.lone v.mine ready_now (λ j. omega arith)
        (λ j. omega arith)).0 in
        record {
          start = start;
          begun = (start_in d ends v desk hand).1;
          slots = put_number t.slots n Out;
          forkers = t.forkers;
          tied = after.tied;
          fresh = after.current.0;
          out = λ k at p. out_at d ends start (draws n u) (put_number t.slots n Out) t.forkers t.lone v.mine after k
              (pass_named (draws n u).passes k at p);
        }

    pub joinee_says : (v0 y : Sight L) → IsIn d ends v0 v desk → y ≡ gives_back w → (a : A) → n ≡ d.on a
        → TookJoinee d ends v0.seat y.seat a n r
    joinee_says v0 y h is a on =
        let seat : y.seat ≡ rests (draws n u) = ap (λ z. z.seat) is ∙ ap (λ z. rests z.seat) t.is in
        record {
          joinee = on;
          lacked = λ at p.
              let pos : 0 < named n v.seat.passes =
              subst (λ l. 0 < named n l) (sym h.same.3) (pass_named v0.seat.passes n at p) in
              let out = out_now d ends v desk hand start t.log t.out t.lone t.slots t.forkers t.now n pos in
              let clash : Some (Ready r) ≡ Some Out = sym ready_now ∙ out in absurd cc;
          ran = take_ran d ends v desk hand free n first w count plan told v0 y h is r here;
          entry = ap (λ z. z.log) seat ∙ sym (ap (λ z. z.found) seat);
          world = subst (HasWorld d ends) (sym seat) world;
        }

-- A joiner takes in the end of its joinee, of which there is a record: one entry.
use Rattle.std.proofs.Common.{◌≡◌, inl, ℕ, ◌/◌, ◌<◌, Bool, List, [], ◌∷◌, ◌++◌, length, refl, sym, ap, ◌∙◌, subst, Option, Some, None}
use Rattle.revision_machine.specs.Numbered.{at_number, put_number}
use Rattle.hub_core.specs.declared.status.Status.{Status}
use Rattle.hub_core.specs.declared.status.Status.TheVariants.{Over, Gone}
use Rattle.hub_core.specs.declared.state.HubState.TheVariants.{All}
use Rattle.hub_core.specs.declared.run_queue.RunQueue.{RunQueue}
use Rattle.hub_core.specs.HubMachine.{HubMachine, numbered, values}
use Rattle.hub_core.specs.declared.desk.Desk.{Desk}
use Rattle.hub_core.specs.declared.deed.Deed.{Deed}
use Rattle.hub_core.specs.declared.deed.Deed.TheVariants.{Commits}
use Rattle.hub_core.specs.declared.sight.Sight.{Sight}
use Rattle.hub_core.specs.declared.view.View.{View}
use Rattle.hub_core.specs.Hub.{Joins}
use Rattle.hub_core.specs.Passes.{named}
use Rattle.hub_core.specs.Recorded.{put_record}
use Rattle.hub_core.specs.Replay.{state_after}
use Rattle.hub_core.specs.Rounds.{stamped}
use Rattle.hub_core.specs.Seats.{HasJoin}
use Rattle.hub_core.specs.Views.{commits, rests}
use Rattle.hub_core.specs.Rule.{says}
use Rattle.hub_core.specs.Tally.{pairs, record_at, records_of, queue_of, found_in, entered, HasDesk, Now, AreLegal, MayEnter, Entered, gives_back}
use Rattle.hub_core.proofs.Hub as hub
use Rattle.hub_core.proofs.Passes.{pass_named}
use Rattle.hub_core.proofs.Moments.{Moment, state_at, join_moment, legal_by}
use Rattle.hub_core.proofs.Standing.{Stands, stands_join}
use Rattle.hub_core.proofs.Staying.{entered_hand}
use Rattle.turn_hub.specs.declared.answers.JoinAnswer.{JoinAnswer}
use Rattle.turn_hub.specs.Answers.{TookIn, HasMet, TakesIn, JoinSays}
use Rattle.turn_hub.proofs.Says.{takes_says}
use Rattle.turn_hub.specs.Turns.{IsIn}
use Rattle.turn_hub.specs.Plans.{CanEnter, IsEntered, HasPlan}
use Rattle.turn_hub.proofs.Values.{can_plan, told_plan}
use Rattle.turn_hub.proofs.Finding.{found_at, keeps_commit}
use Rattle.turn_hub.proofs.Afters.{not_over, tied_in, saw_over, stands_now, moment, out_now, counted_below, rests_entered, after_of}

module _ {L R A E : Type 0} (d : HubMachine L R A E) (ends : E → L → Type 0) where
  -- what lies in the hub, revision by revision
  abbrev Slots : Type 0
  Slots = List (Status R A E)

  module _ (v : Sight L) (desk : Desk R A E) (hand : HasDesk d ends v desk) (free : desk.state ≡ All) (k : ℕ) (a : A)
      (p : HasJoin d ends v.seat k a) (e : E) (over : record_at (records_of desk) (d.on a) ≡ Some (Over e)) where
    abbrev start : L
    start = p.0

    abbrev ds : List Deed
    ds = Commits k ∷ []

    abbrev to : Slots → Slots
    to slots = put_number slots (d.on a) Gone

    has_k : 0 < named k v.seat.passes
    has_k = pass_named v.seat.passes k p.1 p.3

    module _ (log out lone : List ℕ) (slots : Slots) (fs : List ℕ)
        (now : Now d ends v start hand.slots log out lone slots fs) where
      abbrev u : View L
      u = found_in log out (says d ends slots) v.seat

      there : at_number slots (d.on a) ≡ Some (Over e)
      there = ((stands_now d ends v desk hand start log out lone slots fs now).shadows.recorded (d.on a) (Over e)
          over).0

      joins : Joins (numbered d) (values d ends) start log k a
      joins = record {
        state = p.4.state;
        stands = state_at d ends start u slots fs lone v.mine
            (moment d ends v desk hand start log out lone slots fs now) k p.1 p.4.state p.3 p.4.stands;
        comes = p.4.comes;
      }

      claimed_by : Moment d ends start (commits k u) (to slots) fs lone v.mine
          × (state_after (numbered d) start (log ++ k ∷ []) k ≡ Some (d.joined a e))
      claimed_by =
          join_moment d ends start u slots fs lone v.mine (moment d ends v desk hand start log out lone slots fs now) k
          a e has_k joins there

      legal : AreLegal d ends v start ds None v.mine log out lone lone slots (to slots) fs
      legal =
          legal_by d ends v start hand.slots log out lone slots fs now ds None lone v.mine (to slots) (has_k, tt)
          claimed_by.0 (λ j. refl)
          (λ o. not_over d ends slots k (out_now d ends v desk hand start log out lone slots fs now k has_k) o)

    abbrev may : MayEnter d ends v ds (k ∷ []) None (λ n. Unit {0}) v.mine (λ l. l) to
    may = record {
      entries = refl;
      has = hand.has;
      part = hand.part;
      free = hand.halt ∙ free;
      start = start;
      begun = p.2;
      slots = hand.slots;
      tied = tied_in d ends v desk hand start p.2 free;
      outs = hand.outs;
      saw = saw_over d ends v desk hand free;
      legal = λ log out lone slots fs now _. legal log out lone slots fs now;
    }

    pub can_claim : HasPlan desk ds None None → CanEnter d ends v desk None (λ n. Unit {0})
    can_claim plan = can_plan d ends v desk hand ds None None None (λ n. Unit {0}) (k ∷ []) to plan may refl

    module _ (w : Sight L) (count : ℕ) (plan : HasPlan desk ds None None)
        (told : IsEntered d ends v w desk None count) where
      abbrev pub claim_told : Entered d ends v w start hand.slots ds None v.mine (λ l. l) count
      claim_told = told_plan d ends v w desk hand ds None None None count plan told start p.2

      pub claim_count : (count < 8589934592) × (count / 2 ≡ length claim_told.slots)
      claim_count = counted_below d ends v w desk hand start ds None v.mine (λ l. l) count claim_told

      pub claim_rests : (x : Sight L) → x ≡ gives_back w
          → (x.seat.parts ≡ v.seat.parts) × (x.seat.turns ≡ x.seat.log ∷ v.seat.turns) × (x.rounds ≡ v.rounds)
          × (x.limit ≡ v.limit) × (x.mine ≡ v.mine)
      claim_rests x is =
          let t = claim_told in
          rests_entered d ends v w x start hand.slots ds None v.mine (λ l. l) count t
          (legal t.log t.out t.lone t.slots t.forkers t.now).can is

      pub claim_hand : (desk' : Desk R A E)
          → desk'.records.list.items ≡ put_record (records_of desk) (d.on a) Gone
          → desk'.records.queue ≡ desk.records.queue
          → pairs desk'.journal.entries.items ≡ pairs desk.journal.entries.items ++ stamped (length claim_told.slots)
          (entered ds)
          → desk'.state ≡ desk.state → desk'.journal.limit ≡ desk.journal.limit → desk'.lent ≡ desk.lent
          → desk'.strays ≡ desk.strays → HasDesk d ends w desk'
      claim_hand desk' records queue entries state limit lent strays =
          let t = claim_told in
          let st = stands_now d ends v desk hand start t.log t.out t.lone t.slots t.forkers t.now in
          let after =
          stands_join d ends v.seat.group (records_of desk) (queue_of desk) t.slots t.lone desk.strays st (d.on a) e
          over in
          entered_hand d ends v w desk desk' hand free start p.2 ds None v.mine (λ l. l) to count t
          (legal t.log t.out t.lone t.slots t.forkers t.now)
          (after_of d ends All v desk desk' hand (length t.slots) ds (to t.slots) t.lone
          (subst
          (λ (z : List (Option (Status R A E)) × RunQueue × Bool).
          Stands d ends v.seat.group z.0 z.1 (to t.slots) t.lone z.2)
          (λ i. (sym records i, sym queue i, sym strays i)) after)
          entries (state ∙ free) limit (lent ∙ (hand.lent_is ∙ sym t.now.moves.as_many))
          (λ s. lent ∙ hand.strayed (sym strays ∙ s)))

      module _ (v0 : Sight L) (h : IsIn d ends v0 v desk) where
        abbrev y : View L
        y = rests (commits k (found_in claim_told.log claim_told.out (says d ends claim_told.slots) v.seat))

        took : TookIn d ends v0.seat y k (d.joined a e)
        took =
            let t = claim_told in
            let f = found_at d ends v0 v desk t.log t.out t.slots h free in
            record {
              free = f.entered;
              keeps = keeps_commit d ends f k;
              entry = ap (λ l. l ++ k ∷ []) (sym f.found);
              state = (
                start,
                t.log ++ k ∷ [],
                p.2,
                inl (refl, refl),
                (claimed_by t.log t.out t.lone t.slots t.forkers t.now).1,
              );
            }

        met : HasMet d ends y k a e
        met =
            let t = claim_told in (
              start,
              p.2,
              hub.meets (numbered d) (values d ends) start t.log t.slots t.forkers t.now.tied k a e
                  (out_now d ends v desk hand start t.log t.out t.lone t.slots t.forkers t.now k has_k)
                  (joins t.log t.out t.lone t.slots t.forkers t.now) (there t.log t.out t.lone t.slots t.forkers t.now),
            )

        pub claim_says : {C S : Type 0} (claimed : C → A → E → Type 0) (stopped : S → A → E → Type 0)
            (group : C → List ℕ) (halted : S → List ℕ) (x : Sight L) → x ≡ gives_back w
            → d.joiner_group a ≡ v.seat.group → (r : JoinAnswer A C S)
            → TakesIn d ends claimed stopped group halted a e r
            → JoinSays d ends claimed stopped group halted v0.seat x.seat k a r
        claim_says {C} {S} claimed stopped group halted x is own r takes =
            let t = claim_told in
            subst (λ (z : View L). JoinSays d ends claimed stopped group halted v0.seat z k a r)
            (sym (ap (λ z. z.seat) is ∙ ap (λ z. rests z.seat) t.is))
            (takes_says d ends claimed stopped group halted v0.seat y t.slots k a e r takes took met own refl
            (there t.log t.out t.lone t.slots t.forkers t.now))

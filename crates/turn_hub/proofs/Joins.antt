-- The end of a joinee and the join of it are entered in a turn.
use Rattle.std.proofs.Common.{◌≡◌, ℕ, ◌/◌, ◌<◌, Bool, true, false, cond, List, [], ◌∷◌, ◌++◌, length, refl, sym, ap, ◌∙◌, subst, arith, eq-eqb, Some, None}
use Rattle.revision_machine.specs.Numbered.{put_number}
use Rattle.hub_core.specs.declared.status.Status.{Status}
use Rattle.hub_core.specs.declared.status.Status.TheVariants.{Out, Gone}
use Rattle.hub_core.specs.declared.state.HubState.TheVariants.{All}
use Rattle.hub_core.specs.HubMachine.{HubMachine, numbered}
use Rattle.hub_core.specs.declared.desk.Desk.{Desk}
use Rattle.hub_core.specs.declared.deed.Deed.{Deed}
use Rattle.hub_core.specs.declared.records.Records.{Records}
use Rattle.hub_core.specs.declared.sight.Sight.{Sight}
use Rattle.hub_core.specs.declared.view.View.{View}
use Rattle.hub_core.specs.Chains.{IsWithin, chain_at}
use Rattle.hub_core.specs.Passes.{named}
use Rattle.hub_core.specs.Replay.{state_after}
use Rattle.hub_core.specs.Rounds.{stamped}
use Rattle.hub_core.specs.Seats.{Owes}
use Rattle.hub_core.specs.Views.{rests}
use Rattle.hub_core.specs.Rule.{says}
use Rattle.hub_core.specs.Tally.{pairs, record_at, records_of, queue_of, found_in, entered, HasDesk, Now, AreLegal, MayEnter, Entered, gives_back}
use Rattle.hub_core.specs.TallySteps.{leaving}
use Rattle.hub_core.proofs.Moments.{Moment, legal_by}
use Rattle.hub_core.proofs.Standing.{Stands}
use Rattle.hub_core.proofs.Staying.{entered_hand}
use Rattle.turn_hub.specs.Answers.{Settled}
use Rattle.turn_hub.specs.Turns.{IsIn}
use Rattle.turn_hub.specs.Plans.{CanEnter, IsEntered, HasPlan, IsSettled, lone_list, lone_of, settle_deeds}
use Rattle.turn_hub.proofs.Values.{can_plan, told_plan}
use Rattle.turn_hub.proofs.Finding.{Found, found_at}
use Rattle.turn_hub.proofs.Afters.{not_over, tied_in, saw_over, moment, out_now, after_of, counted_below, rests_entered}
use Rattle.turn_hub.proofs.Settles.{settles, settled_says, settle_moment, settle_state, settle_can}
use Rattle.turn_hub.proofs.Lones.{joinee_within, settled_less, joinee_leaves, joinee_lones, joinee_stands}

lone_empty : (c : Bool) (i : ℕ) → leaving (lone_of c i) (lone_list c i) ≡ []
lone_empty true i = ap (λ (b : Bool). cond b [] (i ∷ [])) (eq-eqb i i refl)
lone_empty false i = refl

module _ {L R A E : Type 0} (d : HubMachine L R A E) (ends : E → L → Type 0) where
  abbrev Slots : Type 0
  Slots = List (Status R A E)

  module _ (v : Sight L) (desk : Desk R A E) (hand : HasDesk d ends v desk) (free : desk.state ≡ All) (b : Bool) (i : ℕ)
      (mine : v.mine ≡ lone_list b i) (has : 0 < named i v.seat.passes) (k : ℕ) (l : L) (owes : Owes d ends v.seat i
      k l)
    where
      abbrev start : L
      start = owes.ended.0

      abbrev ds : List Deed
      ds = settle_deeds i k

      abbrev to : Slots → Slots
      to slots = put_number slots i Gone

      abbrev lone_to : List ℕ → List ℕ
      lone_to l = leaving (lone_of b i) l

      module _ (log out lone : List ℕ) (slots : Slots) (fs : List ℕ)
          (now : Now d ends v start hand.slots log out lone slots fs) where
        abbrev u : View L
        u = found_in log out (says d ends slots) v.seat

        found : Found d ends v.seat u slots
        found = record {
          parts = refl;
          start = refl;
          group = refl;
          passes = refl;
          said = refl;
          entered = refl;
          found = refl;
          halt = λ q. refl;
        }

        settled : Moment d ends start (settles i k u) (to slots) fs (lone_to lone) (lone_to v.mine)
            × (state_after (numbered d) start (settles i k u).log k ≡ Some l)
        settled =
            let lv = joinee_leaves d ends v desk hand b i mine has start log out lone slots fs now in
            settle_moment d ends found start owes.ended.2 fs lone v.mine
            (moment d ends v desk hand start log out lone slots fs now) i k l owes (lone_to lone) (lone_to v.mine)
            lv.0 lv.1

        pub join_legal : AreLegal d ends v start ds None (lone_to v.mine) log out lone (lone_to lone) slots (to
            slots) fs
        join_legal =
            legal_by d ends v start hand.slots log out lone slots fs now ds None (lone_to lone) (lone_to v.mine) (to
            slots)
            (settle_can d ends found start owes.ended.2 fs lone v.mine
            (moment d ends v desk hand start log out lone slots fs now) i k l owes)
            settled.0 (joinee_lones d ends v desk hand b i mine has start log out lone slots fs now)
            (λ o. not_over d ends slots i (out_now d ends v desk hand start log out lone slots fs now i has) o)

      abbrev may : MayEnter d ends v ds (entered ds) None (λ n. Unit {0}) (lone_to v.mine) lone_to to
      may = record {
        entries = refl;
        has = hand.has;
        part = hand.part;
        free = hand.halt ∙ free;
        start = start;
        begun = owes.ended.2;
        slots = hand.slots;
        tied = tied_in d ends v desk hand start owes.ended.2 free;
        outs = hand.outs;
        saw = saw_over d ends v desk hand free;
        legal = λ log out lone slots fs now _. join_legal log out lone slots fs now;
      }

      pub can_join : HasPlan desk ds (lone_of b i) None → CanEnter d ends v desk None (λ n. Unit {0})
      can_join plan = can_plan d ends v desk hand ds (lone_of b i) None None (λ n. Unit {0}) (entered ds) to plan
          may refl

      module _ (w : Sight L) (count : ℕ) (plan : HasPlan desk ds (lone_of b i) None)
          (told : IsEntered d ends v w desk None count) where
        abbrev pub join_told : Entered d ends v w start hand.slots ds None (lone_to v.mine) lone_to count
        join_told = told_plan d ends v w desk hand ds (lone_of b i) None None count plan told start owes.ended.2

        pub join_rests : (x : Sight L) → x ≡ gives_back w
            → (x.seat.parts ≡ v.seat.parts) × (x.seat.turns ≡ x.seat.log ∷ v.seat.turns) × (x.rounds ≡ v.rounds)
            × (x.limit ≡ v.limit) × (x.mine ≡ [])
        join_rests x is =
            let t = join_told in
            let r =
            rests_entered d ends v w x start hand.slots ds None (lone_to v.mine) lone_to count t
            (join_legal t.log t.out t.lone t.slots t.forkers t.now).can is in
            (r.0, r.1, r.2, r.3, r.4 ∙ (ap lone_to mine ∙ lone_empty b i))

        pub join_count : (count < 8589934592) × (count / 2 ≡ length join_told.slots)
        join_count = counted_below d ends v w desk hand start ds None (lone_to v.mine) lone_to count join_told

        pub join_within : (b ≡ false → (record_at (records_of desk) i ≡ Some Out) × (i < length (queue_of
            desk).waiters.items)
            × IsWithin (chain_at (queue_of desk).waiters.items i) (length (queue_of desk).links.items))
            × (0 < (queue_of desk).unfinished) × (b ≡ true → 0 < desk.lent)
        join_within =
            let t = join_told in
            joinee_within d ends v desk hand b i mine has start t.log t.out t.lone t.slots t.forkers t.now

        pub join_says : (v0 x : Sight L) → IsIn d ends v0 v desk → x ≡ gives_back w
            → (l0 : L) → Owes d ends v0.seat i k l0 → Settled d ends v0.seat x.seat i k l0
        join_says v0 x h is l0 owes0 =
            let t = join_told in
            let u = found_in t.log t.out (says d ends t.slots) v.seat in
            let f = found_at d ends v0 v desk t.log t.out t.slots h free in
            let m = moment d ends v desk hand start t.log t.out t.lone t.slots t.forkers t.now in
            let lv = joinee_leaves d ends v desk hand b i mine has start t.log t.out t.lone t.slots t.forkers t.now in
            let state =
            settle_state d ends f start owes.ended.2 t.forkers t.lone v.mine m i k l0 owes0 (lone_to t.lone)
            (lone_to v.mine) lv.0 lv.1 in
            subst (λ (y : View L). Settled d ends v0.seat y i k l0)
            (sym (ap (λ y. y.seat) is ∙ ap (λ y. rests y.seat) t.is)) (settled_says d ends f i k l0 state)

        pub join_hand : (one desk' : Desk R A E) → IsSettled b i desk one → desk'.records ≡ one.records
            → desk'.lent ≡ one.lent
            → pairs desk'.journal.entries.items ≡ pairs desk.journal.entries.items ++ stamped (length
            join_told.slots) (entered ds)
            → desk'.state ≡ desk.state → desk'.journal.limit ≡ desk.journal.limit
            → desk'.strays ≡ desk.strays → HasDesk d ends w desk'
        join_hand one desk' done records lent entries state limit strays =
            let t = join_told in
            let st =
            joinee_stands d ends v desk hand b i mine has start t.log t.out t.lone t.slots t.forkers t.now one done
            owes.last in
            let less = settled_less b i desk one done in
            entered_hand d ends v w desk desk' hand free start owes.ended.2 ds None (lone_to v.mine) lone_to to count t
            (join_legal t.log t.out t.lone t.slots t.forkers t.now)
            (after_of d ends All v desk desk' hand (length t.slots) ds (to t.slots) (lone_to t.lone)
            (subst
            (λ (z : Records R A E × Bool). Stands d ends v.seat.group z.0.list.items z.0.queue (to t.slots) (lone_to
            t.lone) z.1)
            (λ j. (sym records j, sym strays j)) st.0)
            entries (state ∙ free) limit (lent ∙ st.1)
            (λ s. let a = hand.strayed (sym strays ∙ s) in let e = lent in omega arith))

-- A fork at one moment of a turn, whose child is ready.
use Rattle.std.proofs.Common.{◌≡◌, ℕ, ◌+◌, ◌*◌, ◌<◌, ◌≤◌, Bool, List, [], ◌∷◌, ◌++◌, length, refl, sym, ap, ◌∙◌, subst, arith, Option, Some, None}
use Rattle.revision_machine.proofs.Numbers.{none_some}
use Rattle.revision_machine.proofs.Lists.{at_none}
use Rattle.hub_core.specs.declared.status.Status.{Status}
use Rattle.hub_core.specs.declared.status.Status.TheVariants.{Ready}
use Rattle.hub_core.specs.declared.state.HubState.TheVariants.{All}
use Rattle.hub_core.specs.HubMachine.{HubMachine}
use Rattle.hub_core.specs.declared.desk.Desk.{Desk}
use Rattle.hub_core.specs.declared.deed.Deed.{Deed}
use Rattle.hub_core.specs.declared.sight.Sight.{Sight}
use Rattle.hub_core.specs.declared.view.View.{View}
use Rattle.hub_core.specs.Chains.{Adds, IsAsLong}
use Rattle.hub_core.specs.Counts.{times}
use Rattle.hub_core.specs.Passes.{named}
use Rattle.hub_core.specs.Recorded.{put_record}
use Rattle.hub_core.specs.Rounds.{stamped}
use Rattle.hub_core.specs.Seats.{HasFork}
use Rattle.hub_core.specs.Views.{rests}
use Rattle.hub_core.specs.Rule.{is_out, says}
use Rattle.hub_core.specs.Tally.{pairs, record_at, Shadows, records_of, queue_of, found_in, entered, HasDesk, Now, AreLegal, MayEnter, Entered, gives_back}
use Rattle.hub_core.proofs.Lines.{queue_few}
use Rattle.hub_core.proofs.Passes.{pass_named}
use Rattle.hub_core.proofs.Moments.{legal_by}
use Rattle.hub_core.proofs.Standing.{Stands, stands_add}
use Rattle.hub_core.proofs.Staying.{entered_hand}
use Rattle.turn_hub.specs.Answers.{Forked}
use Rattle.turn_hub.specs.Turns.{IsIn}
use Rattle.turn_hub.specs.Plans.{CanEnter, IsEntered, HasPlan, fork_deeds}
use Rattle.turn_hub.proofs.Values.{can_plan, told_plan}
use Rattle.turn_hub.proofs.Finding.{Found, found_at}
use Rattle.turn_hub.proofs.Forks.{fork_after, forked_says}
use Rattle.turn_hub.proofs.Afters.{not_over, tied_in, saw_over, stands_now, moment, out_now, after_of, rests_entered}

module _ {L R A E : Type 0} (d : HubMachine L R A E) (ends : E → L → Type 0) where
  abbrev Slots : Type 0
  Slots = List (Status R A E)

  module _ (v : Sight L) (desk : Desk R A E) (hand : HasDesk d ends v desk) (free : desk.state ≡ All) (k : ℕ) (c : R)
      (event : HasFork d ends v.seat k c) (n : ℕ) where
    abbrev start : L
    start = event.0

    abbrev ds : List Deed
    ds = fork_deeds k

    abbrev to : Slots → Slots
    to slots = slots ++ Ready c ∷ []

    has : 0 < named k v.seat.passes
    has = pass_named v.seat.passes k event.1 event.3

    module _ (log out lone : List ℕ) (slots : Slots) (fs : List ℕ)
        (now : Now d ends v start hand.slots log out lone slots fs) where
      abbrev u : View L
      u = found_in log out (says d ends slots) v.seat

      found : Found d ends v.seat u slots
      found = record {
        parts = refl;
        start = refl;
        group = refl;
        passes = refl;
        said = refl;
        entered = refl;
        found = refl;
        halt = λ q. refl;
      }

      pub birth_legal : AreLegal d ends v start ds (Some k) v.mine log out lone lone slots (to slots) fs
      birth_legal =
          legal_by d ends v start hand.slots log out lone slots fs now ds (Some k) lone v.mine (to slots) (has, tt)
          (fork_after d ends found start event.2 fs lone v.mine
          (moment d ends v desk hand start log out lone slots fs now) k c event)
          (λ j. refl)
          (λ o. not_over d ends slots k (out_now d ends v desk hand start log out lone slots fs now k has) o)

    abbrev may : MayEnter d ends v ds [] (Some k) (λ x. x ≡ n) v.mine (λ l. l) to
    may = record {
      entries = refl;
      has = hand.has;
      part = hand.part;
      free = hand.halt ∙ free;
      start = start;
      begun = event.2;
      slots = hand.slots;
      tied = tied_in d ends v desk hand start event.2 free;
      outs = hand.outs;
      saw = saw_over d ends v desk hand free;
      legal = λ log out lone slots fs now fit. birth_legal log out lone slots fs now;
    }

    pub can_bear : HasPlan desk ds None None → desk.plan.forks ≡ k
        → CanEnter d ends v desk (Some desk.plan.forks) (λ x. x ≡ n)
    can_bear plan forks =
        subst (λ z. CanEnter d ends v desk (Some z) (λ x. x ≡ n)) (sym forks)
        (can_plan d ends v desk hand ds None None (Some k) (λ x. x ≡ n) [] to plan may refl)

    module _ (w : Sight L) (count : ℕ) (plan : HasPlan desk ds None None) (forks : desk.plan.forks ≡ k)
        (told : IsEntered d ends v w desk (Some desk.plan.forks) count) (hit : count ≡ 2 * n) where
      abbrev pub birth_told : Entered d ends v w start hand.slots ds (Some k) v.mine (λ l. l) count
      birth_told =
          told_plan d ends v w desk hand ds None None (Some k) count plan
          (subst (λ z. IsEntered d ends v w desk (Some z) count) forks told) start event.2

      pub birth_fit : length birth_told.slots ≡ n
      birth_fit = let a = birth_told.counted in let e = hit in omega arith

      pub birth_rests : (x : Sight L) → x ≡ gives_back w
          → (x.seat.parts ≡ v.seat.parts) × (x.seat.turns ≡ x.seat.log ∷ v.seat.turns) × (x.rounds ≡ v.rounds)
          × (x.limit ≡ v.limit) × (x.mine ≡ v.mine)
      birth_rests x is =
          let t = birth_told in
          rests_entered d ends v w x start hand.slots ds (Some k) v.mine (λ l. l) count t
          (birth_legal t.log t.out t.lone t.slots t.forkers t.now).can is

      pub birth_says : (v0 x : Sight L) → IsIn d ends v0 v desk → x ≡ gives_back w
          → HasFork d ends v0.seat k c → Forked d ends v0.seat x.seat k c n
      birth_says v0 x h is event0 =
          let t = birth_told in
          let f = found_at d ends v0 v desk t.log t.out t.slots h free in
          let m = moment d ends v desk hand start t.log t.out t.lone t.slots t.forkers t.now in
          subst (λ (z : View L × ℕ). Forked d ends v0.seat z.0 k c z.1)
          (λ j. (sym (ap (λ y. y.seat) is ∙ ap (λ y. rests y.seat) t.is) j, birth_fit j))
          (forked_says d ends f start event.2 t.forkers t.lone v.mine m k c event0)

      -- there is no record of the next number
      pub birth_child : (record_at (records_of desk) n ≡ None) × ((queue_of desk).unfinished ≤ n)
      birth_child =
          let t = birth_told in
          let st = stands_now d ends v desk hand start t.log t.out t.lone t.slots t.forkers t.now in
          let few = queue_few d (length (records_of desk)) t.slots (queue_of desk) st.queued in
          let fit = birth_fit in
          (by st.shadows (record_at (records_of desk) n) refl, omega arith)
        where
          by : Shadows (records_of desk) birth_told.slots birth_told.lone
              → (o : Option (Status R A E)) → record_at (records_of desk) n ≡ o → record_at (records_of desk) n ≡ None
          by sh None e = e
          by sh (Some x) e =
              let fit = birth_fit in
              none_some (sym (at_none birth_told.slots n (omega arith)) ∙ (sh.recorded n x e).0)

      pub birth_hand : (desk' : Desk R A E) → n < length (records_of desk) → d.runner_group c ≡ v.seat.group
          → desk'.records.list.items ≡ put_record (records_of desk) n (Ready c)
          → Adds (queue_of desk) (queue_of desk') n × ((queue_of desk').unfinished ≡ (queue_of desk).unfinished + 1)
          × IsAsLong (queue_of desk) (queue_of desk')
          → pairs desk'.journal.entries.items ≡ pairs desk.journal.entries.items ++ stamped (length
          birth_told.slots) (entered ds)
          → desk'.state ≡ desk.state → desk'.journal.limit ≡ desk.journal.limit → desk'.lent ≡ desk.lent
          → desk'.strays ≡ desk.strays → HasDesk d ends w desk'
      birth_hand desk' within group records queue entries state limit lent strays =
          let t = birth_told in
          let st = stands_now d ends v desk hand start t.log t.out t.lone t.slots t.forkers t.now in
          let fit = birth_fit in
          let few = t.now.few n in
          let none_out : times n t.out ≡ 0 = t.now.outs n ∙ ap is_out (at_none t.slots n (omega arith)) in
          let none : times n t.lone ≡ 0 = omega arith in
          entered_hand d ends v w desk desk' hand free start event.2 ds (Some k) v.mine (λ l. l) to count t
          (birth_legal t.log t.out t.lone t.slots t.forkers t.now)
          (after_of d ends All v desk desk' hand (length t.slots) ds (to t.slots) t.lone
          (subst
          (λ (z : List (Option (Status R A E)) × Bool).
          Stands d ends v.seat.group z.0 (queue_of desk') (to t.slots) t.lone z.1)
          (λ i. (sym records i, sym strays i))
          (stands_add d ends v.seat.group (records_of desk) (queue_of desk) t.slots t.lone desk.strays st n c
          (queue_of desk') (sym fit) within none queue.0 queue.1 queue.2 group))
          entries (state ∙ free) limit (lent ∙ (hand.lent_is ∙ sym t.now.moves.as_many))
          (λ s. lent ∙ hand.strayed (sym strays ∙ s)))

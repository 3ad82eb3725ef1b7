-- The end of a joinee, its join and a fork, whose child is ready, at one moment of a turn.
use Rattle.std.proofs.Common.{◌≡◌, ℕ, ◌+◌, ◌*◌, ◌<◌, ◌≤◌, Bool, true, false, List, [], ◌∷◌, ◌++◌, length, refl, sym, ap, ◌∙◌, subst, arith, Option, Some, None}
use Rattle.revision_machine.specs.Numbered.{Bears, put_number}
use Rattle.revision_machine.proofs.Lists.{at_none, put_length}
use Rattle.hub_core.specs.declared.status.Status.{Status}
use Rattle.hub_core.specs.declared.status.Status.TheVariants.{Ready, Out, Gone}
use Rattle.hub_core.specs.declared.state.HubState.TheVariants.{All}
use Rattle.hub_core.specs.HubMachine.{HubMachine, numbered, values}
use Rattle.hub_core.specs.declared.desk.Desk.{Desk}
use Rattle.hub_core.specs.declared.deed.Deed.{Deed}
use Rattle.hub_core.specs.declared.sight.Sight.{Sight}
use Rattle.hub_core.specs.declared.view.View.{View}
use Rattle.hub_core.specs.Hub.{Forks}
use Rattle.hub_core.specs.Chains.{Adds, IsAsLong, IsWithin, chain_at}
use Rattle.hub_core.specs.Counts.{times}
use Rattle.hub_core.specs.Passes.{named}
use Rattle.hub_core.specs.Recorded.{put_record}
use Rattle.hub_core.specs.Rounds.{stamped}
use Rattle.hub_core.specs.Replay.{state_after}
use Rattle.hub_core.specs.Seats.{Owes}
use Rattle.hub_core.specs.Views.{commits, rests}
use Rattle.hub_core.specs.Rule.{is_out, says}
use Rattle.hub_core.specs.Tally.{pairs, record_at, Shadows, records_of, queue_of, found_in, entered, CanDo, HasDesk, Now, AreLegal, MayEnter, Entered, gives_back}
use Rattle.hub_core.specs.TallySteps.{leaving}
use Rattle.hub_core.proofs.Lists.{is_at_same}
use Rattle.revision_machine.proofs.Numbers.{none_some}
use Rattle.hub_core.proofs.Lines.{queue_few}
use Rattle.hub_core.proofs.Moments.{Moment, fork_moment, legal_by}
use Rattle.hub_core.proofs.Standing.{Stands, stands_add}
use Rattle.hub_core.proofs.Staying.{entered_hand}
use Rattle.turn_hub.specs.Answers.{ForkedBehind}
use Rattle.turn_hub.proofs.Lending.{without_one}
use Rattle.turn_hub.specs.Turns.{IsIn}
use Rattle.turn_hub.specs.Plans.{CanEnter, IsEntered, HasPlan, IsSettled, lone_list, lone_of, behind_deeds}
use Rattle.turn_hub.proofs.Values.{can_plan, told_plan}
use Rattle.turn_hub.proofs.Finding.{Found, found_at, owes_on}
use Rattle.turn_hub.proofs.Afters.{not_over, tied_in, saw_over, moment, out_now, after_of, rests_entered}
use Rattle.turn_hub.proofs.Settles.{settles, settle_moment, settle_can}
use Rattle.turn_hub.proofs.Lones.{joinee_within, settled_less, settled_length, joinee_leaves, joinee_lones, joinee_stands}
use Rattle.turn_hub.proofs.Rounds.{behind_says as rounds_behind}

module _ {L R A E : Type 0} (d : HubMachine L R A E) (ends : E → L → Type 0) where
  abbrev Slots : Type 0
  Slots = List (Status R A E)

  module _ (v : Sight L) (desk : Desk R A E) (hand : HasDesk d ends v desk) (free : desk.state ≡ All) (b : Bool) (i : ℕ)
      (mine : v.mine ≡ lone_list b i) (has : 0 < named i v.seat.passes) (k : ℕ) (l : L) (owes : Owes d ends v.seat i
      k l)
      (f : ℕ → L) (c : R) (bears : d.next l ≡ Bears f (d.runs c)) (n : ℕ) where
    abbrev start : L
    start = owes.ended.0

    abbrev ds : List Deed
    ds = behind_deeds i k

    abbrev to : Slots → Slots
    to slots = put_number slots i Gone ++ Ready c ∷ []

    abbrev lone_to : List ℕ → List ℕ
    lone_to l = leaving (lone_of b i) l

    module _ (log out lone : List ℕ) (slots : Slots) (fs : List ℕ)
        (now : Now d ends v start hand.slots log out lone slots fs) where
      abbrev u : View L
      u = found_in log out (says d ends slots) v.seat

      abbrev u2 : View L
      u2 = settles i k u

      abbrev list : Slots
      list = put_number slots i Gone

      found : Found d ends v.seat u slots
      found = record {
        parts = refl;
        start = refl;
        group = refl;
        passes = refl;
        said = refl;
        entered = refl;
        found = refl;
        halt = λ q. refl;
      }

      abbrev lone1 : List ℕ
      lone1 = leaving (lone_of b i) lone

      abbrev mine1 : List ℕ
      mine1 = leaving (lone_of b i) v.mine

      settled : Moment d ends start u2 list fs lone1 mine1 × (state_after (numbered d) start u2.log k ≡ Some l)
      settled =
          let lv = joinee_leaves d ends v desk hand b i mine has start log out lone slots fs now in
          settle_moment d ends found start owes.ended.2 fs lone v.mine
          (moment d ends v desk hand start log out lone slots fs now) i k l owes lone1 mine1 lv.0 lv.1

      has_k : 0 < named k u2.passes
      has_k = let a = is_at_same k in omega arith

      abbrev forks : Forks (numbered d) (values d ends) start u2.log k c
      forks = record { state = l; forker = f; stands = settled.1; bears = bears }

      born : Moment d ends start (commits k u2) (list ++ Ready c ∷ []) (fs ++ k ∷ []) lone1 mine1
      born = (fork_moment d ends start u2 list fs lone1 mine1 settled.0 k c has_k forks).0

      can : CanDo ds u
      can =
          let h =
          settle_can d ends found start owes.ended.2 fs lone v.mine
          (moment d ends v desk hand start log out lone slots fs now) i k l owes in
          (h.0, (h.1.0, (h.1.1.0, (has_k, tt))))

      pub behind_legal : AreLegal d ends v start ds (Some k) (lone_to v.mine) log out lone (lone_to lone) slots (to
          slots) fs
      behind_legal =
          legal_by d ends v start hand.slots log out lone slots fs now ds (Some k) (lone_to lone) (lone_to v.mine)
          (to slots) can born (joinee_lones d ends v desk hand b i mine has start log out lone slots fs now)
          (λ o. not_over d ends slots i (out_now d ends v desk hand start log out lone slots fs now i has) o)

      -- no seat keeps a child of the next number yet
      next_is : length slots ≡ n → n ≡ length list
      next_is fit = sym fit ∙ sym (put_length slots i Gone)

      none_lone : length slots ≡ n → times n lone1 ≡ 0
      none_lone fit =
          let a = settled.0.few n in
          let e : times n u2.out ≡ 0 = settled.0.outs n ∙ ap is_out (at_none list n (let g = next_is fit in omega
          arith)) in
          omega arith

    abbrev may : MayEnter d ends v ds (i ∷ k ∷ []) (Some k) (λ x. x ≡ n) (lone_to v.mine) lone_to to
    may = record {
      entries = refl;
      has = hand.has;
      part = hand.part;
      free = hand.halt ∙ free;
      start = start;
      begun = owes.ended.2;
      slots = hand.slots;
      tied = tied_in d ends v desk hand start owes.ended.2 free;
      outs = hand.outs;
      saw = saw_over d ends v desk hand free;
      legal = λ log out lone slots fs now fit. behind_legal log out lone slots fs now;
    }

    -- with its plan this desk can be entered: as many forks are planned as this one makes, and its child is `n`
    pub can_behind : HasPlan desk ds (lone_of b i) None → desk.plan.forks ≡ k
        → CanEnter d ends v desk (Some desk.plan.forks) (λ x. x ≡ n)
    can_behind plan forks =
        subst (λ z. CanEnter d ends v desk (Some z) (λ x. x ≡ n)) (sym forks)
        (can_plan d ends v desk hand ds (lone_of b i) None (Some k) (λ x. x ≡ n) (i ∷ k ∷ []) to plan may refl)

    lone_empty : (c : Bool) → leaving (lone_of c i) (lone_list c i) ≡ []
    lone_empty true = without_one i
    lone_empty false = refl

    -- what the seat keeps behind it
    pub behind_mine : lone_to v.mine ≡ []
    behind_mine = ap lone_to mine ∙ lone_empty b

    module _ (w : Sight L) (count : ℕ) (plan : HasPlan desk ds (lone_of b i) None) (forks : desk.plan.forks ≡ k)
        (told : IsEntered d ends v w desk (Some desk.plan.forks) count) (hit : count ≡ 2 * n) where
      abbrev pub behind_told : Entered d ends v w start hand.slots ds (Some k) (lone_to v.mine) lone_to count
      behind_told =
          told_plan d ends v w desk hand ds (lone_of b i) None (Some k) count plan
          (subst (λ z. IsEntered d ends v w desk (Some z) count) forks told) start owes.ended.2

      pub behind_fit : length behind_told.slots ≡ n
      behind_fit = let a = behind_told.counted in let e = hit in omega arith

      pub behind_rests : (x : Sight L) → x ≡ gives_back w
          → (x.seat.parts ≡ v.seat.parts) × (x.seat.turns ≡ x.seat.log ∷ v.seat.turns) × (x.rounds ≡ v.rounds)
          × (x.limit ≡ v.limit) × (x.mine ≡ lone_to v.mine)
      behind_rests x is =
          let t = behind_told in
          rests_entered d ends v w x start hand.slots ds (Some k) (lone_to v.mine) lone_to count t
          (behind_legal t.log t.out t.lone t.slots t.forkers t.now).can is

      pub behind_says : (v0 x : Sight L) → IsIn d ends v0 v desk → x ≡ gives_back w
          → (l0 : L) → Owes d ends v0.seat i k l0 → ForkedBehind d ends v0.seat x.seat i k l0 c n
      behind_says v0 x h is l0 owes0 =
          let t = behind_told in
          let g = found_at d ends v0 v desk t.log t.out t.slots h free in
          let m = moment d ends v desk hand start t.log t.out t.lone t.slots t.forkers t.now in
          let lv = joinee_leaves d ends v desk hand b i mine has start t.log t.out t.lone t.slots t.forkers t.now in
          let back : Owes d ends v0.seat i k l = owes_on d ends v.seat v0.seat i k l (sym h.same.1) (sym h.same.3)
          owes in
          let said =
          rounds_behind d ends g start owes.ended.2 t.forkers t.lone v.mine (leaving (lone_of b i) t.lone)
          (leaving (lone_of b i) v.mine) m i k l0 l owes0 back f c bears lv.0 lv.1 in
          subst (λ (z : View L × ℕ). ForkedBehind d ends v0.seat z.0 i k l0 c z.1)
          (λ j. (sym (ap (λ y. y.seat) is ∙ ap (λ y. rests y.seat) t.is) j, behind_fit j))
          said

      pub behind_within : (b ≡ false → (record_at (records_of desk) i ≡ Some Out) × (i < length (queue_of
          desk).waiters.items)
          × IsWithin (chain_at (queue_of desk).waiters.items i) (length (queue_of desk).links.items))
          × (0 < (queue_of desk).unfinished) × (b ≡ true → 0 < desk.lent)
      behind_within =
          let t = behind_told in
          joinee_within d ends v desk hand b i mine has start t.log t.out t.lone t.slots t.forkers t.now

      -- there is no record of the next number
      pub behind_child : (one : Desk R A E) → IsSettled b i desk one
          → (record_at (records_of one) n ≡ None) × ((queue_of one).unfinished ≤ n)
      behind_child one done =
          let t = behind_told in
          let st =
          joinee_stands d ends v desk hand b i mine has start t.log t.out t.lone t.slots t.forkers t.now one done
          owes.last in
          let list = put_number t.slots i Gone in
          let next = next_is t.log t.out t.lone t.slots t.forkers t.now behind_fit in
          let few = queue_few d (length (records_of one)) list (queue_of one) st.0.queued in
          (by list next st.0.shadows (record_at (records_of one) n) refl, omega arith)
        where
          by : (list : Slots) → n ≡ length list → Shadows (records_of one) list (leaving (lone_of b i) behind_told.lone)
              → (o : Option (Status R A E)) → record_at (records_of one) n ≡ o → record_at (records_of one) n ≡ None
          by list next sh None e = e
          by list next sh (Some x) e = none_some (sym (at_none list n (omega arith)) ∙ (sh.recorded n x e).0)

      -- the run queue reaches as far as the records
      pub behind_links : (one : Desk R A E) → IsSettled b i desk one
          → length (queue_of one).links.items ≡ length (records_of one)
      behind_links one done =
          let t = behind_told in
          let st =
          joinee_stands d ends v desk hand b i mine has start t.log t.out t.lone t.slots t.forkers t.now one done
          owes.last in
          st.0.queued.links

      -- the value behind it: first the joinee, then the child
      pub behind_hand : (one desk' : Desk R A E) → IsSettled b i desk one → n < length (records_of desk)
          → d.runner_group c ≡ v.seat.group → desk'.records.list.items ≡ put_record (records_of one) n (Ready c)
          → Adds (queue_of one) (queue_of desk') n × ((queue_of desk').unfinished ≡ (queue_of one).unfinished + 1)
          × IsAsLong (queue_of one) (queue_of desk')
          → pairs desk'.journal.entries.items ≡ pairs desk.journal.entries.items ++ stamped (length
          behind_told.slots) (entered ds)
          → desk'.state ≡ desk.state → desk'.journal.limit ≡ desk.journal.limit → desk'.lent ≡ one.lent
          → desk'.strays ≡ desk.strays → HasDesk d ends w desk'
      behind_hand one desk' done within group records queue entries state limit lent strays =
          let t = behind_told in
          let st =
          joinee_stands d ends v desk hand b i mine has start t.log t.out t.lone t.slots t.forkers t.now one done
          owes.last in
          let list = put_number t.slots i Gone in
          let next = next_is t.log t.out t.lone t.slots t.forkers t.now behind_fit in
          let lone1 = leaving (lone_of b i) t.lone in
          let none = none_lone t.log t.out t.lone t.slots t.forkers t.now behind_fit in
          let less = settled_less b i desk one done in
          let long = settled_length b i desk one done in
          let reach : n < length (records_of one) = let a = within in omega arith in
          let more =
          stands_add d ends v.seat.group (records_of one) (queue_of one) list lone1 desk.strays st.0 n c (queue_of
          desk')
          next reach none queue.0 queue.1 queue.2 group in
          entered_hand d ends v w desk desk' hand free start owes.ended.2 ds (Some k) (lone_to v.mine) lone_to to
          count t
          (behind_legal t.log t.out t.lone t.slots t.forkers t.now)
          (after_of d ends All v desk desk' hand (length t.slots) ds (to t.slots) (lone_to t.lone)
          (subst
          (λ (z : List (Option (Status R A E)) × Bool).
          Stands d ends v.seat.group z.0 (queue_of desk') (to t.slots) (lone_to t.lone) z.1)
          (λ j. (sym records j, sym strays j)) more)
          entries (state ∙ free) limit (lent ∙ st.1)
          (λ s. let a = hand.strayed (sym strays ∙ s) in let e = lent in omega arith))

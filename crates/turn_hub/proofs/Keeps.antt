-- The end of a joinee, its join, a fork, and the child that the seat takes, at one moment of a turn.
use Rattle.std.proofs.Common.{◌≡◌, ne_eqb, ℕ, ◌+◌, ◌*◌, ◌<◌, ◌≤◌, Bool, true, false, cond, List, [], ◌∷◌, ◌++◌, length, refl, sym, ap, ◌∙◌, subst, arith, eq-eqb, Option, Some, None}
use mathlib.Core.Logic.{dite}
use native.Mathlib.Decide.{ℕ_discrete}
use Rattle.revision_machine.specs.Numbered.{Bears, at_number, put_number}
use Rattle.revision_machine.proofs.Lists.{at_length, at_none, put_length}
use Rattle.hub_core.specs.declared.status.Status.{Status}
use Rattle.hub_core.specs.declared.status.Status.TheVariants.{Ready, Out, Gone}
use Rattle.hub_core.specs.declared.state.HubState.TheVariants.{All}
use Rattle.hub_core.specs.HubMachine.{HubMachine, numbered, values}
use Rattle.hub_core.specs.declared.desk.Desk.{Desk}
use Rattle.hub_core.specs.declared.deed.Deed.{Deed}
use Rattle.hub_core.specs.declared.sight.Sight.{Sight}
use Rattle.hub_core.specs.declared.view.View.{View}
use Rattle.hub_core.specs.Hub.{Forks}
use Rattle.hub_core.specs.Chains.{IsWithin, chain_at}
use Rattle.hub_core.specs.Counts.{is_at, times}
use Rattle.hub_core.specs.Passes.{named, without}
use Rattle.hub_core.specs.Rounds.{stamped}
use Rattle.hub_core.specs.Replay.{state_after}
use Rattle.hub_core.specs.Seats.{Owes}
use Rattle.hub_core.specs.Views.{commits, draws, rests}
use Rattle.hub_core.specs.Rule.{is_out, says}
use Rattle.hub_core.specs.Tally.{pairs, record_at, Shadows, records_of, queue_of, found_in, entered, CanDo, HasDesk, Now, AreLegal, MayEnter, Entered, gives_back}
use Rattle.hub_core.specs.TallySteps.{leaving, keeping}
use Rattle.hub_core.proofs.Lists.{is_at_same}
use Rattle.revision_machine.proofs.Numbers.{none_some}
use Rattle.hub_core.proofs.Lines.{queue_few}
use Rattle.hub_core.proofs.Moves.{put_last}
use Rattle.hub_core.proofs.Moments.{Moment, fork_moment, draw_moment, legal_by}
use Rattle.hub_core.proofs.Standing.{Stands, stands_keep, stands_record}
use Rattle.hub_core.proofs.Staying.{entered_hand}
use Rattle.turn_hub.specs.Keeping.{KeptBehind}
use Rattle.turn_hub.specs.Turns.{IsIn}
use Rattle.turn_hub.specs.Plans.{CanEnter, IsEntered, HasPlan, IsSettled, IsTaken, IsBorn, lone_list, lone_of, keep_deeds}
use Rattle.turn_hub.proofs.Values.{can_plan, told_plan}
use Rattle.turn_hub.proofs.Finding.{Found, found_at, owes_on}
use Rattle.turn_hub.proofs.Afters.{not_over, tied_in, saw_over, moment, out_now, after_of, rests_entered}
use Rattle.turn_hub.proofs.Settles.{settles, settle_moment, settle_can}
use Rattle.turn_hub.proofs.Lones.{joinee_within, settled_less, settled_length, joinee_leaves, joinee_lones, joinee_stands}
use Rattle.turn_hub.proofs.Rounds.{kept_says}

-- a list with the child, where that is kept
keep_times : (c : Bool) (n j : ℕ) (l : List ℕ)
    → times j (keeping (lone_of c n) l) ≡ times j (keeping (lone_of c n) []) + times j l
keep_times true n j l = omega arith
keep_times false n j l = omega arith

keep_most : (c : Bool) (n j : ℕ) (l : List ℕ) → times j (keeping (lone_of c n) l) ≤ is_at j n + times j l
keep_most true n j l = omega arith
keep_most false n j l = omega arith

without_none : (n : ℕ) (l : List ℕ) → times n l ≡ 0 → without n l ≡ l
without_none n [] z = refl
without_none n (x ∷ l) z = dite (ℕ_discrete x n)
    (λ q. let a : is_at n x ≡ 1 = ap (is_at n) q ∙ is_at_same n in absurd (omega arith))
    (λ ne. ap (λ (b : Bool). cond b (without n l) (x ∷ without n l)) (ne_eqb x n ne)
    ∙ ap (λ m. x ∷ m) (without_none n l (let a = z in omega arith)))

without_first : (n : ℕ) (l : List ℕ) → times n l ≡ 0 → without n (n ∷ l) ≡ l
without_first n l z =
    ap (λ (b : Bool). cond b (without n l) (n ∷ without n l)) (eq-eqb n n refl) ∙ without_none n l z

module _ {L R A E : Type 0} (d : HubMachine L R A E) (ends : E → L → Type 0) where
  abbrev Slots : Type 0
  Slots = List (Status R A E)

  module _ (v : Sight L) (desk : Desk R A E) (hand : HasDesk d ends v desk) (free : desk.state ≡ All) (b : Bool) (i : ℕ)
      (mine : v.mine ≡ lone_list b i) (has : 0 < named i v.seat.passes) (k : ℕ) (l : L) (owes : Owes d ends v.seat i
      k l)
      (f : ℕ → L) (c : R) (bears : d.next l ≡ Bears f (d.runs c)) (n : ℕ) (kept : Bool) where
    abbrev start : L
    start = owes.ended.0

    abbrev ds : List Deed
    ds = keep_deeds i k n

    abbrev to : Slots → Slots
    to slots = put_number slots i Gone ++ Out ∷ []

    abbrev lone_to : List ℕ → List ℕ
    lone_to l = keeping (lone_of kept n) (leaving (lone_of b i) l)

    module _ (log out lone : List ℕ) (slots : Slots) (fs : List ℕ)
        (now : Now d ends v start hand.slots log out lone slots fs) (fit : length slots ≡ n) where
      abbrev u : View L
      u = found_in log out (says d ends slots) v.seat

      abbrev u2 : View L
      u2 = settles i k u

      abbrev list : Slots
      list = put_number slots i Gone

      found : Found d ends v.seat u slots
      found = record {
        parts = refl;
        start = refl;
        group = refl;
        passes = refl;
        said = refl;
        entered = refl;
        found = refl;
        halt = λ q. refl;
      }

      abbrev lone1 : List ℕ
      lone1 = leaving (lone_of b i) lone

      abbrev mine1 : List ℕ
      mine1 = leaving (lone_of b i) v.mine

      settled : Moment d ends start u2 list fs lone1 mine1 × (state_after (numbered d) start u2.log k ≡ Some l)
      settled =
          let lv = joinee_leaves d ends v desk hand b i mine has start log out lone slots fs now in
          settle_moment d ends found start owes.ended.2 fs lone v.mine
          (moment d ends v desk hand start log out lone slots fs now) i k l owes lone1 mine1 lv.0 lv.1

      has_k : 0 < named k u2.passes
      has_k = let a = is_at_same k in omega arith

      abbrev forks : Forks (numbered d) (values d ends) start u2.log k c
      forks = record { state = l; forker = f; stands = settled.1; bears = bears }

      born : Moment d ends start (commits k u2) (list ++ Ready c ∷ []) (fs ++ k ∷ []) lone1 mine1
      born = (fork_moment d ends start u2 list fs lone1 mine1 settled.0 k c has_k forks).0

      pub keep_next : n ≡ length list
      keep_next = sym fit ∙ sym (put_length slots i Gone)

      child_at : at_number (list ++ Ready c ∷ []) n ≡ Some (Ready c)
      child_at = ap (at_number (list ++ Ready c ∷ [])) keep_next ∙ at_length list (Ready c) []

      taken : Moment d ends start (draws n (commits k u2)) (to slots) (fs ++ k ∷ []) (lone_to lone) (lone_to v.mine)
      taken =
          subst (λ z. Moment d ends start (draws n (commits k u2)) z (fs ++ k ∷ []) (lone_to lone) (lone_to v.mine))
          (ap (λ z. put_number (list ++ Ready c ∷ []) z Out) keep_next ∙ put_last list (Ready c) Out)
          (draw_moment d ends start (commits k u2) (list ++ Ready c ∷ []) (fs ++ k ∷ []) lone1 mine1 born n c
          (lone_to lone) (lone_to v.mine) child_at (λ j. keep_most kept n j lone1) (λ j. keep_most kept n j mine1)).0

      can : CanDo ds u
      can =
          let h =
          settle_can d ends found start owes.ended.2 fs lone v.mine
          (moment d ends v desk hand start log out lone slots fs now) i k l owes in
          let none : times n (commits k u2).out ≡ 0 = born.outs n ∙ ap is_out child_at in
          (h.0, (h.1.0, (h.1.1.0, (has_k, (none, tt)))))

      pub keep_legal : AreLegal d ends v start ds (Some k) (lone_to v.mine) log out lone (lone_to lone) slots (to
          slots) fs
      keep_legal =
          legal_by d ends v start hand.slots log out lone slots fs now ds (Some k) (lone_to lone) (lone_to v.mine)
          (to slots) can taken
          (λ j.
          let a = keep_times kept n j lone1 in
          let e = keep_times kept n j mine1 in
          let g = joinee_lones d ends v desk hand b i mine has start log out lone slots fs now j in
          omega arith)
          (λ o. not_over d ends slots i (out_now d ends v desk hand start log out lone slots fs now i has) o)

      -- no seat keeps a child of the next number yet
      none_lone : times n lone1 ≡ 0
      none_lone =
          let a = settled.0.few n in
          let e : times n u2.out ≡ 0 = settled.0.outs n ∙ ap is_out (at_none list n (let g = keep_next in omega
          arith)) in
          omega arith

    abbrev may : MayEnter d ends v ds (i ∷ k ∷ []) (Some k) (λ x. x ≡ n) (lone_to v.mine) lone_to to
    may = record {
      entries = refl;
      has = hand.has;
      part = hand.part;
      free = hand.halt ∙ free;
      start = start;
      begun = owes.ended.2;
      slots = hand.slots;
      tied = tied_in d ends v desk hand start owes.ended.2 free;
      outs = hand.outs;
      saw = saw_over d ends v desk hand free;
      legal = λ log out lone slots fs now fit. keep_legal log out lone slots fs now fit;
    }

    pub can_keep : HasPlan desk ds (lone_of b i) (lone_of kept n) → desk.plan.forks ≡ k
        → CanEnter d ends v desk (Some desk.plan.forks) (λ x. x ≡ n)
    can_keep plan forks =
        subst (λ z. CanEnter d ends v desk (Some z) (λ x. x ≡ n)) (sym forks)
        (can_plan d ends v desk hand ds (lone_of b i) (lone_of kept n) (Some k) (λ x. x ≡ n) (i ∷ k ∷ []) to plan
        may refl)

    lone_empty : (c : Bool) → leaving (lone_of c i) (lone_list c i) ≡ []
    lone_empty true = without_first i [] refl
    lone_empty false = refl

    -- what the seat keeps behind it
    pub keep_mine : lone_to v.mine ≡ lone_list kept n
    keep_mine = ap lone_to mine ∙ (ap (keeping (lone_of kept n)) (lone_empty b) ∙ last kept)
      where
        last : (c : Bool) → keeping (lone_of c n) [] ≡ lone_list c n
        last true = refl
        last false = refl

    module _ (w : Sight L) (count : ℕ) (plan : HasPlan desk ds (lone_of b i) (lone_of kept n)) (forks :
        desk.plan.forks ≡ k)
        (told : IsEntered d ends v w desk (Some desk.plan.forks) count) (hit : count ≡ 2 * n) where
      abbrev pub keep_told : Entered d ends v w start hand.slots ds (Some k) (lone_to v.mine) lone_to count
      keep_told =
          told_plan d ends v w desk hand ds (lone_of b i) (lone_of kept n) (Some k) count plan
          (subst (λ z. IsEntered d ends v w desk (Some z) count) forks told) start owes.ended.2

      pub keep_fit : length keep_told.slots ≡ n
      keep_fit = let a = keep_told.counted in let e = hit in omega arith

      pub keep_rests : (x : Sight L) → x ≡ gives_back w
          → (x.seat.parts ≡ v.seat.parts) × (x.seat.turns ≡ x.seat.log ∷ v.seat.turns) × (x.rounds ≡ v.rounds)
          × (x.limit ≡ v.limit) × (x.mine ≡ lone_to v.mine)
      keep_rests x is =
          let t = keep_told in
          rests_entered d ends v w x start hand.slots ds (Some k) (lone_to v.mine) lone_to count t
          (keep_legal t.log t.out t.lone t.slots t.forkers t.now keep_fit).can is

      pub keep_says : (v0 x : Sight L) → IsIn d ends v0 v desk → x ≡ gives_back w → d.runner_group c ≡ v.seat.group
          → (l0 : L) → Owes d ends v0.seat i k l0 → KeptBehind d ends v0.seat x.seat i k l0 c n c
      keep_says v0 x h is group l0 owes0 =
          let t = keep_told in
          let g = found_at d ends v0 v desk t.log t.out t.slots h free in
          let m = moment d ends v desk hand start t.log t.out t.lone t.slots t.forkers t.now in
          let lv = joinee_leaves d ends v desk hand b i mine has start t.log t.out t.lone t.slots t.forkers t.now in
          let back : Owes d ends v0.seat i k l = owes_on d ends v.seat v0.seat i k l (sym h.same.1) (sym h.same.3)
          owes in
          let said =
          kept_says d ends g start owes.ended.2 t.forkers t.lone v.mine (leaving (lone_of b i) t.lone)
          (leaving (lone_of b i) v.mine) m i k l0 l owes0 back f c bears group lv.0 lv.1 in
          subst (λ (z : View L × ℕ). KeptBehind d ends v0.seat z.0 i k l0 c z.1 c)
          (λ j. (
            sym (ap (λ y. y.seat) is ∙ (ap (λ y. rests y.seat) t.is
                ∙ ap (λ y. rests (draws y (commits k (settles i k (found_in t.log t.out (says d ends t.slots)
                v.seat))))) (sym keep_fit))) j,
            keep_fit j,
          ))
          said

      pub keep_within : (b ≡ false → (record_at (records_of desk) i ≡ Some Out) × (i < length (queue_of
          desk).waiters.items)
          × IsWithin (chain_at (queue_of desk).waiters.items i) (length (queue_of desk).links.items))
          × (0 < (queue_of desk).unfinished) × (b ≡ true → 0 < desk.lent)
      keep_within =
          let t = keep_told in
          joinee_within d ends v desk hand b i mine has start t.log t.out t.lone t.slots t.forkers t.now

      -- there is no record of the next number
      pub keep_child : (one : Desk R A E) → IsSettled b i desk one
          → (record_at (records_of one) n ≡ None) × ((queue_of one).unfinished ≤ n)
      keep_child one done =
          let t = keep_told in
          let st =
          joinee_stands d ends v desk hand b i mine has start t.log t.out t.lone t.slots t.forkers t.now one done
          owes.last in
          let list = put_number t.slots i Gone in
          let next = keep_next t.log t.out t.lone t.slots t.forkers t.now keep_fit in
          let few = queue_few d (length (records_of one)) list (queue_of one) st.0.queued in
          (by list next st.0.shadows (record_at (records_of one) n) refl, omega arith)
        where
          by : (list : Slots) → n ≡ length list → Shadows (records_of one) list (leaving (lone_of b i) keep_told.lone)
              → (o : Option (Status R A E)) → record_at (records_of one) n ≡ o → record_at (records_of one) n ≡ None
          by list next sh None e = e
          by list next sh (Some x) e = none_some (sym (at_none list n (omega arith)) ∙ (sh.recorded n x e).0)

      -- the value behind it: first the joinee, then the child
      pub keep_hand : (one desk' : Desk R A E) → IsSettled b i desk one → (desk.strays ≡ true → kept ≡ false)
          → IsTaken kept n one desk' → IsBorn one desk' → (kept ≡ false → n < length (records_of desk))
          → pairs desk'.journal.entries.items ≡ pairs desk.journal.entries.items ++ stamped (length keep_told.slots)
          (entered ds)
          → desk'.state ≡ desk.state → desk'.journal.limit ≡ desk.journal.limit
          → desk'.strays ≡ desk.strays → HasDesk d ends w desk'
      keep_hand one desk' done strayed took bore within entries state limit strays =
          let t = keep_told in
          let st =
          joinee_stands d ends v desk hand b i mine has start t.log t.out t.lone t.slots t.forkers t.now one done
          owes.last in
          let list = put_number t.slots i Gone in
          let next = keep_next t.log t.out t.lone t.slots t.forkers t.now keep_fit in
          let lone1 = leaving (lone_of b i) t.lone in
          let more =
          stands_keep d ends v.seat.group (records_of one) (queue_of one) list lone1 desk.strays st.0 n
          (queue_of desk') next bore.0 bore.1 bore.2 in
          let none = none_lone t.log t.out t.lone t.slots t.forkers t.now keep_fit in
          let last = child_stands kept one desk' list lone1 st.1 more none next within_one took in
          entered_hand d ends v w desk desk' hand free start owes.ended.2 ds (Some k) (lone_to v.mine) lone_to to
          count t
          (keep_legal t.log t.out t.lone t.slots t.forkers t.now keep_fit)
          (after_of d ends All v desk desk' hand (length t.slots) ds (to t.slots) (lone_to t.lone)
          (subst (λ s. Stands d ends v.seat.group (records_of desk') (queue_of desk') (to t.slots) (lone_to t.lone) s)
          (sym strays) last.0)
          entries (state ∙ free) limit last.1
          (λ s. none_lent (sym strays ∙ s)))
        where
          within_one : kept ≡ false → n < length (records_of one)
          within_one q = let a = within q in let e = settled_length b i desk one done in omega arith

          none_lent : desk.strays ≡ true → desk'.lent ≡ 0
          none_lent q =
              let h : IsTaken false n one desk' = subst (λ z. IsTaken z n one desk') (strayed q) took in
              let a = hand.strayed q in
              let e = settled_less b i desk one done in
              let g = h.1 in
              omega arith

          child_stands : (c : Bool) (one desk' : Desk R A E) (list : Slots) (lone1 : List ℕ) → one.lent ≡ length lone1
              → Stands d ends v.seat.group (records_of one) (queue_of desk') (list ++ Out ∷ []) (n ∷ lone1) desk.strays
              → times n lone1 ≡ 0 → n ≡ length list → (c ≡ false → n < length (records_of one)) → IsTaken c n one desk'
              → Stands d ends v.seat.group (records_of desk') (queue_of desk') (list ++ Out ∷ []) (keeping (lone_of
              c n) lone1)
              desk.strays
              × (desk'.lent ≡ length (keeping (lone_of c n) lone1))
          child_stands true one desk' list lone1 lent more none next within took = (
            subst
                (λ rs. Stands d ends v.seat.group rs (queue_of desk') (list ++ Out ∷ []) (n ∷ lone1) desk.strays)
                (sym took.0) more,
            (let a = took.1 in let e = lent in omega arith),
          )
          child_stands false one desk' list lone1 lent more none next within took = (
            subst
                (λ (z : List (Option (Status R A E)) × List ℕ).
                Stands d ends v.seat.group z.0 (queue_of desk') (list ++ Out ∷ []) z.1 desk.strays)
                (λ j. (sym took.0 j, without_first n lone1 none j))
                (stands_record d ends v.seat.group (records_of one) (queue_of desk') (list ++ Out ∷ []) (n ∷ lone1)
                desk.strays more n (within refl)
                (ap (at_number (list ++ Out ∷ [])) next ∙ at_length list Out [])),
            took.1 ∙ lent,
          )

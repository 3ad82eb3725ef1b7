-- What is ready first is drawn, at one moment of a turn.
use Rattle.std.proofs.Common.{◌≡◌, ◌≢◌, inl, inr, ◌⊎◌, ℕ, ◌<◌, Bool, true, false, List, [], ◌∷◌, ◌++◌, length, refl, sym, ap, ◌∙◌, subst, arith, append-nil, Option, Some, None}
use Rattle.revision_machine.specs.Numbered.{at_number, put_number}
use Rattle.revision_machine.proofs.Paths.{some_inj}
use Rattle.revision_machine.proofs.Numbers.{none_some}
use Rattle.hub_core.specs.declared.status.Status.{Status}
use Rattle.hub_core.specs.declared.status.Status.TheVariants.{Ready, Out, Waiting, Over, Gone}
use Rattle.hub_core.specs.declared.state.HubState.TheVariants.{All}
use Rattle.hub_core.specs.HubMachine.{HubMachine}
use Rattle.hub_core.specs.declared.desk.Desk.{Desk}
use Rattle.hub_core.specs.declared.deed.Deed.TheVariants.{Draws}
use Rattle.hub_core.specs.declared.run_queue.Chain.{Chain}
use Rattle.hub_core.specs.declared.sight.Sight.{Sight}
use Rattle.hub_core.specs.declared.view.View.{View}
use Rattle.hub_core.specs.Chains.{IsWay, IsList, Takes, IsAsLong, IsWithin}
use Rattle.hub_core.specs.Counts.{is_at, times, flag}
use Rattle.hub_core.specs.Found.{is_ready, all_over, ended_here}
use Rattle.hub_core.specs.Marks.{first_in}
use Rattle.hub_core.specs.Recorded.{put_record}
use Rattle.hub_core.specs.Seats.{KeepsOthers}
use Rattle.hub_core.specs.Views.{draws, rests, ready_said, all_said}
use Rattle.hub_core.specs.Rule.{is_out, done, says}
use Rattle.hub_core.specs.Tally.{pairs, record_at, records_of, queue_of, IsLone, found_in, HasDesk, Now, AreLegal, MayEnter, Entered, gives_back}
use Rattle.hub_core.proofs.Lists.{is_at_same}
use Rattle.hub_core.proofs.Passes.{pass_behind}
use Rattle.hub_core.proofs.Slots.{no_more, all_ended}
use Rattle.hub_core.proofs.Lines.{ready_within, queue_over, queue_open}
use Rattle.hub_core.proofs.Shadowing.{shadows_listed}
use Rattle.hub_core.proofs.Moments.{Moment, draw_moment, retry_moment, legal_by}
use Rattle.hub_core.proofs.Standing.{Stands, stands_take}
use Rattle.hub_core.proofs.Staying.{entered_hand}
use Rattle.turn_hub.specs.Answers.{Ran, Retried, IsNoneReady, IsIdleNow, IsFinished}
use Rattle.turn_hub.proofs.Says.{says_some, says_ready, says_all, where_retry}
use Rattle.turn_hub.specs.Turns.{IsIn}
use Rattle.turn_hub.specs.Plans.{CanEnter, IsEntered, HasPlan}
use Rattle.turn_hub.proofs.Values.{can_plan, told_plan}
use Rattle.turn_hub.proofs.Finding.{Found, found_at, to_pass, from_pass}
use Rattle.turn_hub.proofs.Afters.{tied_in, saw_over, start_in, stands_now, moment, after_of, rests_entered}

pub flag_yes : (b : Bool) → 0 < flag b → b ≡ true
flag_yes true e = refl
flag_yes false e = absurd (omega arith)

-- the first of a list stands in it
pub head_in : (links : List ℕ) (o : Option Chain) (ns : List ℕ) (n : ℕ) → IsList links o ns → first_in o ≡ Some n → 0 <
    times n ns
head_in links None ns n l e = none_some e
head_in links (Some chain) ns n l e =
    subst (λ z. 0 < times n z) (sym l.is) (by l.front l.way)
  where
    by : (front : List ℕ) → IsWay links chain.first front chain.last → 0 < times n (front ++ chain.last ∷ [])
    by [] way =
        let a : chain.last ≡ n = sym way ∙ some_inj e in
        let b : is_at n chain.last ≡ 1 = ap (is_at n) a ∙ is_at_same n in
        omega arith
    by (x ∷ front) way =
        let a : x ≡ n = sym way.1 ∙ some_inj e in
        let b : is_at n x ≡ 1 = ap (is_at n) a ∙ is_at_same n in
        omega arith

module _ {L R A E : Type 0} (d : HubMachine L R A E) (ends : E → L → Type 0) where
  abbrev Slots : Type 0
  Slots = List (Status R A E)

  -- what is ready is before its leg, or waits for what has ended
  abbrev pub CanDraw : Slots → Status R A E → Type 0
  CanDraw slots (Ready r) = Unit {0}
  CanDraw slots Out = ⊥
  CanDraw slots (Waiting a) = ended_here (at_number slots (d.on a)) ≡ true
  CanDraw slots (Over e) = ⊥
  CanDraw slots Gone = ⊥

  pub can_draw : (slots : Slots) (o : Option (Status R A E)) → is_ready d slots o ≡ true
      → (y : Status R A E) × (o ≡ Some y) × CanDraw slots y
  can_draw slots None e = no_more e
  can_draw slots (Some (Ready r)) e = (Ready r, refl, tt)
  can_draw slots (Some Out) e = no_more e
  can_draw slots (Some (Waiting a)) e = (Waiting a, refl, e)
  can_draw slots (Some (Over i)) e = no_more e
  can_draw slots (Some Gone) e = no_more e

  drawn_free : (slots : Slots) (y : Status R A E) → CanDraw slots y → is_out (Some y) ≡ 0
  drawn_free slots (Ready r) h = refl
  drawn_free slots Out h = absurd h
  drawn_free slots (Waiting a) h = refl
  drawn_free slots (Over i) h = absurd h
  drawn_free slots Gone h = absurd h

  drawn_open : {P : Type 0} (slots : Slots) (n : ℕ) (y : Status R A E) → CanDraw slots y → at_number slots n ≡ Some y
      → all_over slots ≡ true → P
  drawn_open slots n (Ready r) h e o = absurd (all_ended slots n (Ready r) o e)
  drawn_open slots n Out h e o = absurd h
  drawn_open slots n (Waiting a) h e o = absurd (all_ended slots n (Waiting a) o e)
  drawn_open slots n (Over i) h e o = absurd h
  drawn_open slots n Gone h e o = absurd h

  module _ (v : Sight L) (desk : Desk R A E) (hand : HasDesk d ends v desk) (free : desk.state ≡ All) (n : ℕ)
      (first : first_in (queue_of desk).ready ≡ Some n) where
    abbrev start : L
    start = (start_in d ends v desk hand).0

    abbrev begun : v.seat.start ≡ Some start
    begun = (start_in d ends v desk hand).1

    abbrev to : Slots → Slots
    to slots = put_number slots n Out

    module _ (log out lone : List ℕ) (slots : Slots) (fs : List ℕ)
        (now : Now d ends v start hand.slots log out lone slots fs) where
      abbrev u : View L
      u = found_in log out (says d ends slots) v.seat

      abbrev st : Stands d ends v.seat.group (records_of desk) (queue_of desk) slots lone desk.strays
      st = stands_now d ends v desk hand start log out lone slots fs now

      pub draw_ready : is_ready d slots (at_number slots n) ≡ true
      draw_ready =
          let q = st.queued in
          let a = head_in (queue_of desk).links.items (queue_of desk).ready q.ready n q.lists.ready_is first in
          let b = q.ready_are n in
          flag_yes (is_ready d slots (at_number slots n)) (omega arith)

      abbrev status : (y : Status R A E) × (at_number slots n ≡ Some y) × CanDraw slots y
      status = can_draw slots (at_number slots n) draw_ready

      -- it has a record
      pub draw_record : record_at (records_of desk) n ≡ Some status.0
      draw_record = by (record_at (records_of desk) n) refl
        where
          lone_not : (y : Status R A E) → CanDraw slots y → at_number slots n ≡ Some y → IsLone slots lone n
              → record_at (records_of desk) n ≡ Some y
          lone_not y h e (inl q) =
              absurd (subst (CanDraw slots) (some_inj (sym e ∙ q.0)) h)
          lone_not y h e (inr q) =
              absurd (subst (CanDraw slots) (some_inj (sym e ∙ q.0)) h)

          other_not : (y : Status R A E) → CanDraw slots y → at_number slots n ≡ Some y
              → IsLone slots lone n ⊎ ((at_number slots n ≡ None) × (times n lone ≡ 0))
              → record_at (records_of desk) n ≡ Some y
          other_not y h e (inl q) = lone_not y h e q
          other_not y h e (inr q) = none_some (sym q.0 ∙ e)

          by : (o : Option (Status R A E)) → record_at (records_of desk) n ≡ o
              → record_at (records_of desk) n ≡ Some status.0
          by None e = other_not status.0 status.2 status.1 (st.shadows.others n e)
          by (Some x) e = e ∙ (sym (st.shadows.recorded n x e).0 ∙ status.1)

      moved : (y : Status R A E) → at_number slots n ≡ Some y → CanDraw slots y
          → Moment d ends start (draws n u) (to slots) fs lone v.mine
      moved (Ready r) e h =
          (draw_moment d ends start u slots fs lone v.mine (moment d ends v desk hand start log out lone slots fs
          now) n r
          lone v.mine e (λ j. omega arith) (λ j. omega arith)).0
      moved Out e h = absurd h
      moved (Waiting a) e h =
          (retry_moment d ends start u slots fs lone v.mine (moment d ends v desk hand start log out lone slots fs
          now) n
          a e).0
      moved (Over i) e h = absurd h
      moved Gone e h = absurd h

      pub draw_legal : AreLegal d ends v start (Draws n ∷ []) None v.mine log out lone lone slots (to slots) fs
      draw_legal =
          legal_by d ends v start hand.slots log out lone slots fs now (Draws n ∷ []) None lone v.mine (to slots)
          (now.outs n ∙ (ap is_out status.1 ∙ drawn_free slots status.0 status.2), tt)
          (moved status.0 status.1 status.2) (λ j. refl) (λ o. drawn_open slots n status.0 status.2 status.1 o)

    abbrev may : MayEnter d ends v (Draws n ∷ []) [] None (λ i. Unit {0}) v.mine (λ l. l) to
    may = record {
      entries = refl;
      has = hand.has;
      part = hand.part;
      free = hand.halt ∙ free;
      start = start;
      begun = begun;
      slots = hand.slots;
      tied = tied_in d ends v desk hand start begun free;
      outs = hand.outs;
      saw = saw_over d ends v desk hand free;
      legal = λ log out lone slots fs now _. draw_legal log out lone slots fs now;
    }

    pub can_take : HasPlan desk (Draws n ∷ []) None None → CanEnter d ends v desk None (λ i. Unit {0})
    can_take plan = can_plan d ends v desk hand (Draws n ∷ []) None None None (λ i. Unit {0}) [] to plan may refl

    module _ (w : Sight L) (count : ℕ) (plan : HasPlan desk (Draws n ∷ []) None None)
        (told : IsEntered d ends v w desk None count) where
      abbrev pub draw_told : Entered d ends v w start hand.slots (Draws n ∷ []) None v.mine (λ l. l) count
      draw_told = told_plan d ends v w desk hand (Draws n ∷ []) None None None count plan told start begun

      abbrev pub drawn : (y : Status R A E) × (at_number draw_told.slots n ≡ Some y) × CanDraw draw_told.slots y
      drawn = let t = draw_told in status t.log t.out t.lone t.slots t.forkers t.now

      pub take_record : record_at (records_of desk) n ≡ Some drawn.0
      take_record = let t = draw_told in draw_record t.log t.out t.lone t.slots t.forkers t.now

      -- of any value that its record has
      pub take_ready : (x : Status R A E) → record_at (records_of desk) n ≡ Some x
          → is_ready d draw_told.slots (Some x) ≡ true
      take_ready x here =
          let t = draw_told in
          let s = stands_now d ends v desk hand start t.log t.out t.lone t.slots t.forkers t.now in
          ap (is_ready d t.slots) (sym (s.shadows.recorded n x here).0)
          ∙ draw_ready t.log t.out t.lone t.slots t.forkers t.now

      pub take_rests : (y : Sight L) → y ≡ gives_back w
          → (y.seat.parts ≡ v.seat.parts) × (y.seat.turns ≡ y.seat.log ∷ v.seat.turns) × (y.rounds ≡ v.rounds)
          × (y.limit ≡ v.limit) × (y.mine ≡ v.mine)
      take_rests y is =
          let t = draw_told in
          rests_entered d ends v w y start hand.slots (Draws n ∷ []) None v.mine (λ l. l) count t
          (draw_legal t.log t.out t.lone t.slots t.forkers t.now).can is

      pub take_within : IsWithin (queue_of desk).ready (length (queue_of desk).links.items)
      take_within =
          let t = draw_told in
          let s = stands_now d ends v desk hand start t.log t.out t.lone t.slots t.forkers t.now in
          ready_within d (length (records_of desk)) t.slots (queue_of desk)
          (shadows_listed d (records_of desk) t.slots t.lone s.shadows) s.queued

      pub take_hand : (desk' : Desk R A E) → desk'.records.list.items ≡ put_record (records_of desk) n Out
          → Takes (queue_of desk) (queue_of desk') (Some n)
          → ((queue_of desk').unfinished ≡ (queue_of desk).unfinished) × IsAsLong (queue_of desk) (queue_of desk')
          → desk'.journal ≡ desk.journal → desk'.state ≡ desk.state → desk'.lent ≡ desk.lent
          → desk'.strays ≡ desk.strays → HasDesk d ends w desk'
      take_hand desk' records takes same journal state lent strays =
          let t = draw_told in
          let s = stands_now d ends v desk hand start t.log t.out t.lone t.slots t.forkers t.now in
          entered_hand d ends v w desk desk' hand free start begun (Draws n ∷ []) None v.mine (λ l. l) to count t
          (draw_legal t.log t.out t.lone t.slots t.forkers t.now)
          (after_of d ends All v desk desk' hand (length t.slots) (Draws n ∷ []) (to t.slots) t.lone
          (subst
          (λ (z : List (Option (Status R A E)) × Bool).
          Stands d ends v.seat.group z.0 (queue_of desk') (to t.slots) t.lone z.1)
          (λ i. (sym records i, sym strays i))
          (stands_take d ends v.seat.group (records_of desk) (queue_of desk) t.slots t.lone desk.strays s n drawn.0
          (queue_of desk') take_record takes same))
          (ap (λ j. pairs j.entries.items) journal ∙ sym (append-nil (pairs desk.journal.entries.items)))
          (state ∙ free) (ap (λ j. j.limit) journal) (lent ∙ (hand.lent_is ∙ sym t.now.moves.as_many))
          (λ q. lent ∙ hand.strayed (sym strays ∙ q)))

      keeps_drawn : (v0 u : View L) (slots : Slots) → Found d ends v0 u slots → KeepsOthers v0 (rests (draws n u)) n
      keeps_drawn v0 u slots f = (
        (f.start, f.group, f.parts),
        λ j at ne p. inr (to_pass d ends f j at p),
        λ j at ne p. from_pass d ends f j at (pass_behind (n, u.log) u.passes j at p ne),
        f.halt,
      )

      module _ (v0 y : Sight L) (h : IsIn d ends v0 v desk) (is : y ≡ gives_back w) where
        abbrev view : View L
        view = found_in draw_told.log draw_told.out (says d ends draw_told.slots) v.seat

        is_view : y.seat ≡ rests (draws n view)
        is_view = ap (λ z. z.seat) is ∙ ap (λ z. rests z.seat) draw_told.is

        found : Found d ends v0.seat view draw_told.slots
        found = found_at d ends v0 v desk draw_told.log draw_told.out draw_told.slots h free

        pub take_ran : (r : R) → record_at (records_of desk) n ≡ Some (Ready r) → Ran d ends y.seat.said v0.seat
            y.seat n r
        take_ran r here =
            let t = draw_told in
            let s = stands_now d ends v desk hand start t.log t.out t.lone t.slots t.forkers t.now in
            let at = (s.shadows.recorded n (Ready r) here).0 in
            let m = moment d ends v desk hand start t.log t.out t.lone t.slots t.forkers t.now in
            let got =
            draw_moment d ends start view t.slots t.forkers t.lone v.mine m n r t.lone v.mine at (λ j. omega arith)
            (λ j. omega arith) in
            subst (λ (z : View L). Ran d ends z.said v0.seat z n r) (sym is_view) record {
              free = found.entered;
              keeps = keeps_drawn v0.seat view t.slots found;
              was = says_some d ends t.slots n (Ready r) at;
              state = (start, view.log, begun, inl (refl, refl), got.1);
              group = hand.grouped n (Ready r) here;
            }

        pub take_retried : (a : A) → record_at (records_of desk) n ≡ Some (Waiting a)
            → Retried d ends y.seat.said v0.seat y.seat n a
        take_retried a here =
            let t = draw_told in
            let s = stands_now d ends v desk hand start t.log t.out t.lone t.slots t.forkers t.now in
            let at = (s.shadows.recorded n (Waiting a) here).0 in
            let m = moment d ends v desk hand start t.log t.out t.lone t.slots t.forkers t.now in
            let got = retry_moment d ends start view t.slots t.forkers t.lone v.mine m n a at in
            let ready = draw_ready t.log t.out t.lone t.slots t.forkers t.now in
            let f = where_retry d ends (says d ends t.slots) t.slots n a refl at ready in
            subst (λ (z : View L). Retried d ends z.said v0.seat z n a) (sym is_view) record {
              free = found.entered;
              keeps = keeps_drawn v0.seat view t.slots found;
              was = f.0;
              ended = f.1;
              event = (start, view.log, begun, inl (refl, refl), got.1);
              group = hand.grouped n (Waiting a) here;
            }

  -- where nothing is ready
  module _ (v0 v y : Sight L) (desk : Desk R A E) (h : IsIn d ends v0 v desk) (free : desk.state ≡ All)
      (none : first_in (queue_of desk).ready ≡ None) (is : y ≡ gives_back v) where
    empty_ready : (o : Option Chain) (links ns : List ℕ) → IsList links o ns → first_in o ≡ None → ns ≡ []
    empty_ready None links ns l e = l
    empty_ready (Some chain) links ns l e = none_some (sym e)

    none_flag : (b : Bool) → flag b ≡ 0 → b ≡ false
    none_flag true e = absurd (omega (arith, e))
    none_flag false e = refl

    none_here : (k : ℕ) → is_ready d h.hand.slots (at_number h.hand.slots k) ≡ false
    none_here k =
        let q = h.hand.queued in
        let a = ap (times k) (empty_ready (queue_of desk).ready (queue_of desk).links.items q.ready q.lists.ready_is
        none) in
        let b = q.ready_are k in
        none_flag (is_ready d h.hand.slots (at_number h.hand.slots k)) (omega arith)

    said_is : y.seat.said ≡ says d ends h.hand.slots
    said_is = ap (λ z. z.seat.said) is ∙ h.said

    pub none_says : IsNoneReady d ends y.seat.said v0.seat y.seat
    none_says = record {
      free = ap (λ z. z.seat.entered) is ∙ (h.entered ∙ free);
      keeps = (
        (
          ap (λ z. z.seat.start) is ∙ h.same.1,
          ap (λ z. z.seat.group) is ∙ h.same.2,
          ap (λ z. z.seat.parts) is ∙ h.same.0,
        ),
        ap (λ z. z.seat.passes) is ∙ h.same.3,
        λ q. ap (λ z. z.seat.halt) is ∙ (h.hand.halt ∙ sym (h.known q)),
      );
      none_ready = λ k.
          ap (λ z. ready_said z (at_number z k)) said_is ∙ (says_ready d ends h.hand.slots k ∙ none_here k);
    }

    pub idle_says : (queue_of desk).unfinished ≢ 0 → IsIdleNow d ends v0.seat y.seat
    idle_says some = let g = none_says in record {
      free = g.free;
      keeps = g.keeps;
      unfinished = ap all_said said_is
          ∙ (says_all d ends h.hand.slots
          ∙ queue_open d (length (records_of desk)) h.hand.slots (queue_of desk) h.hand.queued some);
      none_ready = g.none_ready;
    }

    pub finished_says : (queue_of desk).unfinished ≡ 0 → IsFinished d ends v0.seat y.seat
    finished_says zero =
        let g = none_says in
        let over = queue_over d (length (records_of desk)) h.hand.slots (queue_of desk) h.hand.queued zero in
        record {
          free = g.free;
          keeps = g.keeps;
          finished = ap all_said said_is ∙ (says_all d ends h.hand.slots ∙ over);
          saw = ap (λ z. z.seat.saw) is ∙ h.over (ap (λ s. done s h.hand.slots) free ∙ over);
        }

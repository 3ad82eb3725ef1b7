-- A seat hands a revision in and goes on with what comes first, at one moment of its turn.
use Rattle.std.proofs.Common.{◌≡◌, ◌≢◌, ◌⊎◌, inl, inr, ℕ, ◌/◌, ◌<◌, Bool, true, false, List, ◌∷◌, ◌++◌, length, refl, sym, ap, ◌∙◌, subst, arith, Option, Some, None}
use Rattle.revision_machine.specs.Numbered.{at_number, put_number}
use Rattle.revision_machine.proofs.Paths.{some_inj}
use Rattle.revision_machine.proofs.Numbers.{none_some}
use Rattle.hub_core.specs.declared.status.Status.{Status}
use Rattle.hub_core.specs.declared.status.Status.TheVariants.{Ready, Out, Waiting, Over, Gone}
use Rattle.hub_core.specs.declared.state.HubState.TheVariants.{All}
use Rattle.hub_core.specs.declared.deed.Deed.{Deed}
use Rattle.hub_core.specs.declared.desk.Desk.{Desk}
use Rattle.hub_core.specs.declared.records.Records.{Records}
use Rattle.hub_core.specs.declared.sight.Sight.{Sight}
use Rattle.hub_core.specs.declared.view.View.{View}
use Rattle.hub_core.specs.HubMachine.{HubMachine}
use Rattle.hub_core.specs.Chains.{IsWithin}
use Rattle.hub_core.specs.Counts.{times, flag}
use Rattle.hub_core.specs.Found.{is_ready}
use Rattle.hub_core.specs.Marks.{first_in}
use Rattle.hub_core.specs.Passes.{named}
use Rattle.hub_core.specs.Rounds.{stamped}
use Rattle.hub_core.specs.Rule.{says}
use Rattle.hub_core.specs.Tally.{pairs, record_at, records_of, queue_of, IsLone, Shadows, found_in, entered, do_all, CanDo, HasDesk, Now, AreLegal, MayEnter, Entered, gives_back}
use Rattle.hub_core.proofs.Lines.{ready_within}
use Rattle.hub_core.proofs.Moments.{Moment, legal_by}
use Rattle.hub_core.proofs.Shadowing.{shadows_listed}
use Rattle.hub_core.proofs.Standing.{Stands, stands_take}
use Rattle.hub_core.proofs.Staying.{entered_hand}
use Rattle.turn_hub.specs.declared.coming.Coming.{Coming}
use Rattle.turn_hub.specs.Plans.{CanEnter, IsEntered, HasPlan}
use Rattle.turn_hub.specs.Comings.{IsOpenRecord, TakesFirst, coming_deeds, coming_slots}
use Rattle.turn_hub.proofs.Values.{can_plan, told_plan}
use Rattle.turn_hub.proofs.Draws.{CanDraw, can_draw, head_in, flag_yes}
use Rattle.turn_hub.proofs.Heads.{ComesAt, comes_moment, can_append, do_append, list_head, head_none}
use Rattle.turn_hub.proofs.Afters.{not_over, tied_in, saw_over, out_now, counted_below, rests_entered, after_of}

flag_no : (b : Bool) → flag b ≡ 0 → b ≡ false
flag_no true e = absurd (omega (arith, e))
flag_no false e = refl

module _ {L R A E : Type 0} (d : HubMachine L R A E) (ends : E → L → Type 0) where
  abbrev Slots : Type 0
  Slots = List (Status R A E)

  -- ---- the plan

  -- at each moment the deeds may be done, and lead to another status of this revision
  abbrev pub MayGo : (v : Sight L) (desk : Desk R A E) → HasDesk d ends v desk → List Deed → ℕ → Status R A E → L
      → Type 0
  MayGo v desk hand pre k x start =
      (log out lone : List ℕ) (slots : Slots) (fs : List ℕ) → Now d ends v start hand.slots log out lone slots fs
      → CanDo pre (found_in log out (says d ends slots) v.seat)
      × Moment d ends start (do_all pre (found_in log out (says d ends slots) v.seat)) (put_number slots k x) fs lone
      v.mine

  -- at each moment this comes behind them
  abbrev pub Comes : (v : Sight L) (desk : Desk R A E) → HasDesk d ends v desk → ℕ → Status R A E → L → Coming → Type 0
  Comes v desk hand k x start c =
      (log out lone : List ℕ) (slots : Slots) (fs : List ℕ) → Now d ends v start hand.slots log out lone slots fs
      → ComesAt d ends (put_number slots k x) c

  module _ (v : Sight L) (desk : Desk R A E) (hand : HasDesk d ends v desk) (free : desk.state ≡ All)
      (pre : List Deed) (k : ℕ) (pos : 0 < named k v.seat.passes) (x : Status R A E) (start : L)
      (begun : v.seat.start ≡ Some start) (may_go : MayGo v desk hand pre k x start) (c : Coming)
      (comes : Comes v desk hand k x start c) where
    abbrev pub ds : List Deed
    ds = pre ++ coming_deeds c

    abbrev pub to : Slots → Slots
    to slots = coming_slots c (put_number slots k x)

    module _ (log out lone : List ℕ) (slots : Slots) (fs : List ℕ)
        (now : Now d ends v start hand.slots log out lone slots fs) where
      abbrev u : View L
      u = found_in log out (says d ends slots) v.seat

      go_legal : AreLegal d ends v start ds None v.mine log out lone lone slots (to slots) fs
      go_legal =
          let first = may_go log out lone slots fs now in
          let later =
          comes_moment d ends start (do_all pre u) (put_number slots k x) fs lone v.mine first.1 c
          (comes log out lone slots fs now) in
          legal_by d ends v start hand.slots log out lone slots fs now ds None lone v.mine (to slots)
          (can_append pre (coming_deeds c) u first.0 later.0)
          (subst (λ (z : View L). Moment d ends start z (to slots) fs lone v.mine)
          (sym (do_append pre (coming_deeds c) u)) later.1)
          (λ j. refl)
          (λ o. not_over d ends slots k (out_now d ends v desk hand start log out lone slots fs now k pos) o)

    abbrev may : MayEnter d ends v ds (entered ds) None (λ n. Unit {0}) v.mine (λ l. l) to
    may = record {
      entries = refl;
      has = hand.has;
      part = hand.part;
      free = hand.halt ∙ free;
      start = start;
      begun = begun;
      slots = hand.slots;
      tied = tied_in d ends v desk hand start begun free;
      outs = hand.outs;
      saw = saw_over d ends v desk hand free;
      legal = λ log out lone slots fs now _. go_legal log out lone slots fs now;
    }

    pub can_go : HasPlan desk ds None None → CanEnter d ends v desk None (λ n. Unit {0})
    can_go plan = can_plan d ends v desk hand ds None None None (λ n. Unit {0}) (entered ds) to plan may refl

    module _ (w : Sight L) (count : ℕ) (plan : HasPlan desk ds None None)
        (told : IsEntered d ends v w desk None count) where
      abbrev pub go_told : Entered d ends v w start hand.slots ds None v.mine (λ l. l) count
      go_told = told_plan d ends v w desk hand ds None None None count plan told start begun

      pub go_count : (count < 8589934592) × (count / 2 ≡ length go_told.slots)
      go_count = counted_below d ends v w desk hand start ds None v.mine (λ l. l) count go_told

      pub go_rests : (y : Sight L) → y ≡ gives_back w
          → (y.seat.parts ≡ v.seat.parts) × (y.seat.turns ≡ y.seat.log ∷ v.seat.turns) × (y.rounds ≡ v.rounds)
          × (y.limit ≡ v.limit) × (y.mine ≡ v.mine)
      go_rests y is =
          let t = go_told in
          rests_entered d ends v w y start hand.slots ds None v.mine (λ l. l) count t
          (go_legal t.log t.out t.lone t.slots t.forkers t.now).can is

      pub go_hand : (desk' : Desk R A E)
          → Stands d ends v.seat.group (records_of desk') (queue_of desk') (to go_told.slots) go_told.lone desk.strays
          → pairs desk'.journal.entries.items ≡ pairs desk.journal.entries.items ++ stamped (length go_told.slots)
          (entered ds)
          → desk'.state ≡ desk.state → desk'.journal.limit ≡ desk.journal.limit → desk'.lent ≡ desk.lent
          → desk'.strays ≡ desk.strays → HasDesk d ends w desk'
      go_hand desk' st entries state limit lent strays =
          let t = go_told in
          entered_hand d ends v w desk desk' hand free start begun ds None v.mine (λ l. l) to count t
          (go_legal t.log t.out t.lone t.slots t.forkers t.now)
          (after_of d ends All v desk desk' hand (length t.slots) ds (to t.slots) t.lone
          (subst (λ (b : Bool). Stands d ends v.seat.group (records_of desk') (queue_of desk') (to t.slots) t.lone b)
          (sym strays) st)
          entries (state ∙ free) limit (lent ∙ (hand.lent_is ∙ sym t.now.moves.as_many))
          (λ s. lent ∙ hand.strayed (sym strays ∙ s)))

  -- a revision that no seat has, and that was not joined, has a record
  pub record_of : (rs : List (Option (Status R A E))) (slots : Slots) (lone : List ℕ) → Shadows rs slots lone → (n : ℕ)
      (y : Status R A E) → at_number slots n ≡ Some y → y ≢ Out → y ≢ Gone → record_at rs n ≡ Some y
  record_of rs slots lone sh n y e not_out not_gone = by (record_at rs n) refl
    where
      other : IsLone slots lone n ⊎ ((at_number slots n ≡ None) × (times n lone ≡ 0)) → record_at rs n ≡ Some y
      other (inl (inl q)) = absurd (not_out (some_inj (sym e ∙ q.0)))
      other (inl (inr q)) = absurd (not_gone (some_inj (sym e ∙ q.0)))
      other (inr q) = none_some (sym q.0 ∙ e)

      by : (o : Option (Status R A E)) → record_at rs n ≡ o → record_at rs n ≡ Some y
      by None h = other (sh.others n h)
      by (Some x) h = h ∙ (sym (sh.recorded n x h).0 ∙ e)

  drawn_record : (rs : List (Option (Status R A E))) (slots : Slots) (lone : List ℕ) → Shadows rs slots lone → (n : ℕ)
      (y : Status R A E) → at_number slots n ≡ Some y → CanDraw d ends slots y → record_at rs n ≡ Some y
  drawn_record rs slots lone sh n (Ready r) e h = record_of rs slots lone sh n (Ready r) e (λ q. cc) (λ q. cc)
  drawn_record rs slots lone sh n Out e h = absurd h
  drawn_record rs slots lone sh n (Waiting a) e h = record_of rs slots lone sh n (Waiting a) e (λ q. cc) (λ q. cc)
  drawn_record rs slots lone sh n (Over i) e h = absurd h
  drawn_record rs slots lone sh n Gone e h = absurd h

  -- ---- the value: what comes first in the run queue has a record, and is ready

  module _ (group : List ℕ) (rs : Records R A E) (slots : Slots) (lone : List ℕ) (strays : Bool)
      (st : Stands d ends group rs.list.items rs.queue slots lone strays) where
    pub first_within : IsWithin rs.queue.ready (length rs.queue.links.items)
    first_within =
        ready_within d (length rs.list.items) slots rs.queue
        (shadows_listed d rs.list.items slots lone st.shadows) st.queued

    module _ (n : ℕ) (first : first_in rs.queue.ready ≡ Some n) where
      pub first_ready : is_ready d slots (at_number slots n) ≡ true
      first_ready =
          let q = st.queued in
          let a = head_in rs.queue.links.items rs.queue.ready q.ready n q.lists.ready_is first in
          let b = q.ready_are n in
          flag_yes (is_ready d slots (at_number slots n)) (omega arith)

      pub first_status : (y : Status R A E) × (at_number slots n ≡ Some y) × CanDraw d ends slots y
      first_status = can_draw d ends slots (at_number slots n) first_ready

      can_open : (y : Status R A E) → CanDraw d ends slots y → IsOpenRecord y
      can_open (Ready r) h = tt
      can_open Out h = absurd h
      can_open (Waiting a) h = tt
      can_open (Over e) h = absurd h
      can_open Gone h = absurd h

      pub first_record : record_at rs.list.items n ≡ Some first_status.0
      first_record =
          drawn_record rs.list.items slots lone st.shadows n first_status.0 first_status.1 first_status.2

      pub first_kept : (x : Status R A E) × (record_at rs.list.items n ≡ Some x) × IsOpenRecord x
      first_kept = (first_status.0, first_record, can_open first_status.0 first_status.2)

    -- it is taken
    pub taken_stands : (rs' : Records R A E) (n : ℕ) (x : Status R A E) → TakesFirst rs rs' n x
        → Stands d ends group rs'.list.items rs'.queue (put_number slots n Out) lone strays
    taken_stands rs' n x h =
        subst (λ (l : List (Option (Status R A E))). Stands d ends group l rs'.queue
        (put_number slots n Out) lone strays)
        (sym h.list)
        (stands_take d ends group rs.list.items rs.queue slots lone strays st n x rs'.queue h.was h.takes h.same)

    -- nothing comes
    pub none_stands : first_in rs.queue.ready ≡ None → (j : ℕ) → is_ready d slots (at_number slots j) ≡ false
    none_stands none j =
        let q = st.queued in
        let empty = head_none q.ready (sym (list_head rs.queue.links.items rs.queue.ready q.ready q.lists.ready_is) ∙
        none) in
        let a : times j q.ready ≡ 0 = ap (times j) empty in
        let b = q.ready_are j in
        flag_no (is_ready d slots (at_number slots j)) (omega arith)

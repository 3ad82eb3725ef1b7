-- The child that a seat keeps gets a record, and is kept no more.
use Rattle.std.proofs.Common.{◌≡◌, ◌≢◌, ℕ, ◌+◌, ◌<◌, ◌≤◌, Bool, true, cond, List, [], ◌∷◌, length, refl, sym, ap, ◌∙◌, subst, arith, append-nil, eq-eqb, Option, Some, None}
use mathlib.Core.Logic.{dite}
use native.Mathlib.Decide.{ℕ_discrete}
use Rattle.hub_core.specs.declared.status.Status.{Status}
use Rattle.hub_core.specs.declared.status.Status.TheVariants.{Out}
use Rattle.hub_core.specs.declared.state.HubState.TheVariants.{All}
use Rattle.hub_core.specs.HubMachine.{HubMachine, numbered, values}
use Rattle.hub_core.specs.declared.desk.Desk.{Desk}
use Rattle.hub_core.specs.declared.deed.Plan.{Plan}
use Rattle.hub_core.specs.declared.records.Records.{Records}
use Rattle.hub_core.specs.declared.sight.Sight.{Sight}
use Rattle.hub_core.specs.Hub.{Tied}
use Rattle.hub_core.specs.Counts.{times}
use Rattle.hub_core.specs.Found.{all_over}
use Rattle.hub_core.specs.Passes.{named, without}
use Rattle.hub_core.specs.Recorded.{put_record, IsLonger}
use Rattle.hub_core.specs.Rule.{says, done}
use Rattle.hub_core.specs.Tally.{pairs, record_at, records_of, queue_of, HasDesk, Now, AreLegal, MayEnter, Entered}
use Rattle.hub_core.proofs.Lists.{is_at_same}
use Rattle.hub_core.proofs.Passes.{count_gone, count_other}
use Rattle.hub_core.proofs.Moves.{less_length, over_none, none_over}
use Rattle.hub_core.proofs.Standing.{Stands, stands_longer, stands_record}
use Rattle.hub_core.specs.declared.run_queue.RunQueue.{RunQueue}
use Rattle.hub_core.proofs.Sole.{one_hand}
use Rattle.hub_core.proofs.Staying.{IsAfter, entered_both}
use Rattle.turn_hub.specs.Turns.{IsIn}
use Rattle.turn_hub.specs.Plans.{CanEnter, IsEntered, HasPlan}
use Rattle.turn_hub.proofs.Values.{can_plan, told_plan}
use Rattle.turn_hub.proofs.Afters.{start_in, tied_in, saw_over, stands_now, out_now, after_of}

pub without_one : (n : ℕ) → without n (n ∷ []) ≡ []
without_one n = ap (λ (b : Bool). cond b [] (n ∷ [])) (eq-eqb n n refl)

module _ {L R A E : Type 0} (d : HubMachine L R A E) (ends : E → L → Type 0) where
  abbrev Slots : Type 0
  Slots = List (Status R A E)

  -- more places for records
  longer_both : (v : Sight L) (held : Desk R A E) (records : Records R A E) (plan : Plan) (hand : HasDesk d ends v held)
      → IsLonger held.records.queue records.queue held.records.list.items records.list.items
      → (h : HasDesk d ends v (record held { records = records; plan = plan })) × (h.slots ≡ hand.slots)
  longer_both v held records plan hand longer =
      let st : Stands d ends v.seat.group (records_of held) (queue_of held) hand.slots v.lone held.strays =
      record { shadows = hand.shadows; queued = hand.queued; tracked = hand.tracked; grouped = hand.grouped } in
      let more =
      stands_longer d ends v.seat.group (records_of held) (queue_of held) hand.slots v.lone held.strays st
      records.list.items records.queue longer in (
        record {
          has = hand.has;
          part = hand.part;
          slots = hand.slots;
          sound = hand.sound;
          outs = hand.outs;
          current = hand.current;
          alone = hand.alone;
          kept = hand.kept;
          entries = hand.entries;
          limit_is = hand.limit_is;
          lent_is = hand.lent_is;
          shadows = more.shadows;
          queued = more.queued;
          tracked = more.tracked;
          strayed = hand.strayed;
          grouped = more.grouped;
          saw = hand.saw;
          halt = hand.halt;
        },
        refl,
      )

  pub hand_longer : (v : Sight L) (desk held : Desk R A E) (records : Records R A E) (plan : Plan) → HasDesk d ends
      v desk
      → held ≡ desk → IsLonger held.records.queue records.queue held.records.list.items records.list.items
      → HasDesk d ends v (record held { records = records; plan = plan })
  hand_longer v desk held records plan hand is longer =
      (longer_both v held records plan (subst (λ x. HasDesk d ends v x) (sym is) hand) longer).0

  pub in_longer : (v w : Sight L) (desk held : Desk R A E) (records : Records R A E) (plan : Plan) → IsIn d ends v w
      desk
      → held ≡ desk → IsLonger held.records.queue records.queue held.records.list.items records.list.items
      → IsIn d ends v w (record held { records = records; plan = plan })
  in_longer v w desk held records plan h0 is longer =
      let h = subst (λ x. IsIn d ends v w x) (sym is) h0 in
      let both = longer_both w held records plan h.hand longer in
      let one = both.1 in
      record {
        hand = both.0;
        same = h.same;
        limit = h.limit;
        over = λ o. h.over (ap (done held.state) (sym one) ∙ o);
        said = h.said ∙ ap (says d ends) (sym one);
        entered = h.entered;
        found = h.found;
        known = h.known;
      }

  module _ (v : Sight L) (desk : Desk R A E) (hand : HasDesk d ends v desk) (free : desk.state ≡ All) (n : ℕ)
      (mine : v.mine ≡ n ∷ []) where
    abbrev start : L
    start = (start_in d ends v desk hand).0

    abbrev begun : v.seat.start ≡ Some start
    begun = (start_in d ends v desk hand).1

    is_mine : times n v.mine ≡ 1
    is_mine = let a = ap (times n) mine in let b = is_at_same n in omega arith

    has_n : 0 < named n v.seat.passes
    has_n = let a = hand.kept n in let b = is_mine in omega arith

    module _ (log out lone : List ℕ) (slots : Slots) (fs : List ℕ)
        (now : Now d ends v start hand.slots log out lone slots fs) where
      is_lone : times n lone ≡ 1
      is_lone = let a = now.own n in let b = now.alone n has_n in let e = is_mine in omega arith

      others : (j : ℕ) → j ≢ n → (times j (without n lone) ≡ times j lone) × (times j (without n v.mine) ≡ times j
          v.mine)
      others j ne = (count_other (λ (x : ℕ). x) n j lone ne, count_other (λ (x : ℕ). x) n j v.mine ne)

      none : (times n (without n lone) ≡ 0) × (times n (without n v.mine) ≡ 0)
      none = (count_gone (λ (x : ℕ). x) n lone, count_gone (λ (x : ℕ). x) n v.mine)

      lones : (j : ℕ) → times j (without n lone) + times j v.mine ≡ times j lone + times j (without n v.mine)
      lones j = dite (ℕ_discrete j n)
          (λ q. subst (λ i. times i (without n lone) + times i v.mine ≡ times i lone + times i (without n v.mine))
          (sym q)
          (let a = none.0 in let b = none.1 in let e = is_lone in let f = is_mine in omega arith))
          (λ ne. let a = (others j ne).0 in let b = (others j ne).1 in omega arith)

      few : (j : ℕ) → times j (without n lone) ≤ times j out
      few j = let a = now.few j in dite (ℕ_discrete j n)
          (λ q. let z : times j (without n lone) ≡ 0 = ap (λ i. times i (without n lone)) q ∙ none.0 in omega arith)
          (λ ne. let b = (others j ne).0 in omega arith)

      kept : (j : ℕ) → times j (without n v.mine) ≤ named j v.seat.passes
      kept j = let a = now.kept j in dite (ℕ_discrete j n)
          (λ q. let z : times j (without n v.mine) ≡ 0 = ap (λ i. times i (without n v.mine)) q ∙ none.1 in omega arith)
          (λ ne. let b = (others j ne).1 in omega arith)

      legal : AreLegal d ends v start [] None (without n v.mine) log out lone (without n lone) slots slots fs
      legal = record {
        can = tt;
        tied = subst (λ l. Tied (numbered d) (values d ends) start l slots fs) (sym (append-nil log)) now.tied;
        outs = now.outs;
        lones = lones;
        few = few;
        kept = kept;
        over = λ o. o;
      }

    abbrev may : MayEnter d ends v [] [] None (λ i. Unit {0}) (without n v.mine) (λ l. without n l) (λ slots. slots)
    may = record {
      entries = refl;
      has = hand.has;
      part = hand.part;
      free = hand.halt ∙ free;
      start = start;
      begun = begun;
      slots = hand.slots;
      tied = tied_in d ends v desk hand start begun free;
      outs = hand.outs;
      saw = saw_over d ends v desk hand free;
      legal = λ log out lone slots fs now _. legal log out lone slots fs now;
    }

    pub can_lend : HasPlan desk [] (Some n) None → CanEnter d ends v desk None (λ i. Unit {0})
    can_lend plan = can_plan d ends v desk hand [] (Some n) None None (λ i. Unit {0}) [] (λ slots. slots) plan may refl

    module _ (w : Sight L) (count : ℕ) (plan : HasPlan desk [] (Some n) None)
        (told : IsEntered d ends v w desk None count) where
      abbrev t : Entered d ends v w start hand.slots [] None (without n v.mine) (λ l. without n l) count
      t = told_plan d ends v w desk hand [] (Some n) None None count plan told start begun

      pub lend_mine : w.mine ≡ []
      lend_mine = ap (λ x. x.mine) t.is ∙ (ap (without n) mine ∙ without_one n)

      -- there was no record, and there is one child fewer that is kept
      pub lend_none : record_at (records_of desk) n ≡ None
      lend_none = by (record_at (records_of desk) n) refl
        where
          by : (o : Option (Status R A E)) → record_at (records_of desk) n ≡ o → record_at (records_of desk) n ≡ None
          by None e = e
          by (Some x) e =
              let st = stands_now d ends v desk hand start t.log t.out t.lone t.slots t.forkers t.now in
              let a = (st.shadows.recorded n x e).1 in
              let b = is_lone t.log t.out t.lone t.slots t.forkers t.now in
              absurd (omega arith)

      pub lend_less : desk.lent ≡ length (without n t.lone) + 1
      lend_less =
          let a = hand.lent_is in
          let b = t.now.moves.as_many in
          let e = less_length n t.lone in
          let f = is_lone t.log t.out t.lone t.slots t.forkers t.now in
          omega arith

      pub lend_some : 0 < desk.lent
      lend_some = let a = lend_less in omega arith

      module _ (desk' : Desk R A E) (within : n < length (records_of desk))
          (records : desk'.records.list.items ≡ put_record (records_of desk) n Out)
          (queue : desk'.records.queue ≡ desk.records.queue) (journal : desk'.journal ≡ desk.journal)
          (state : desk'.state ≡ desk.state) (lent : desk'.lent + 1 ≡ desk.lent) (strays : desk'.strays ≡
          desk.strays) where
        after : IsAfter d ends All v.seat.group desk desk' (length t.slots) [] t.slots (without n t.lone)
        after =
            let st = stands_now d ends v desk hand start t.log t.out t.lone t.slots t.forkers t.now in
            let put =
            stands_record d ends v.seat.group (records_of desk) (queue_of desk) t.slots t.lone desk.strays st n within
            (out_now d ends v desk hand start t.log t.out t.lone t.slots t.forkers t.now n has_n) in
            after_of d ends All v desk desk' hand (length t.slots) [] t.slots (without n t.lone)
            (subst
            (λ (z : List (Option (Status R A E)) × RunQueue × Bool).
            Stands d ends v.seat.group z.0 z.1 t.slots (without n t.lone) z.2)
            (λ i. (sym records i, sym queue i, sym strays i)) put)
            (ap (λ j. pairs j.entries.items) journal ∙ sym (append-nil (pairs desk.journal.entries.items)))
            (state ∙ free) (ap (λ j. j.limit) journal) (let a = lend_less in omega arith)
            (λ s. let a = lend_some in let b = hand.strayed (sym strays ∙ s) in absurd (omega arith))

        both : (h : HasDesk d ends w desk') × (h.slots ≡ t.slots)
        both =
            entered_both d ends v w desk desk' hand free start begun [] None (without n v.mine) (λ l. without n l)
            (λ slots. slots) count t (legal t.log t.out t.lone t.slots t.forkers t.now) after

        pub lend_hand : HasDesk d ends w desk'
        lend_hand = both.0

        -- the seat is in its turn as before
        pub lend_in : (v0 : Sight L) → IsIn d ends v0 v desk → IsIn d ends v0 w desk'
        lend_in v0 h =
            let is = t.is in record {
              hand = both.0;
              same = (
                ap (λ x. x.seat.parts) is ∙ h.same.0,
                ap (λ x. x.seat.start) is ∙ h.same.1,
                ap (λ x. x.seat.group) is ∙ h.same.2,
                ap (λ x. x.seat.passes) is ∙ h.same.3,
                ap (λ x. x.seat.turns) is ∙ h.same.4,
                ap (λ x. x.rounds) is ∙ h.same.5,
              );
              limit = let a = h.limit in let e = ap (λ x. x.limit) is in omega arith;
              over = λ o. ap (λ x. x.seat.saw) is ∙ h.over (was_over h.hand (over_now o));
              said = ap (λ x. x.seat.said) is ∙ ap (says d ends) (sym both.1);
              entered = ap (λ x. x.seat.entered) is ∙ (sym free ∙ sym state);
              found = ap (λ x. x.seat.found) is ∙ sym (ap (λ x. x.seat.log) is);
              known = λ q. h.known q ∙ sym state;
            }
          where
            over_now : done desk'.state both.0.slots ≡ true → all_over t.slots ≡ true
            over_now o = ap all_over (sym both.1) ∙ (ap (λ z. done z both.0.slots) (sym (state ∙ free)) ∙ o)

            was_over : (hand' : HasDesk d ends v desk) → all_over t.slots ≡ true → done desk.state hand'.slots ≡ true
            was_over hand' o =
                ap (λ z. done z hand'.slots) free
                ∙ (ap all_over (one_hand d ends v desk hand' hand)
                ∙ none_over hand.slots (sym t.now.moves.count ∙ over_none t.slots o))

-- What a joiner finds of its joinee: by its record, or by the number of revisions where no seat keeps a child.
use Rattle.std.proofs.Common.{◌≡◌, ℕ, zero, suc, get_or, ◌/◌, ◌<◌, ◌≤◌, true, false, List, [], ◌∷◌, length, refl, sym, ap, ◌∙◌, subst, arith, append-nil, Option, Some, None}
use Rattle.revision_machine.specs.Numbered.{at_number}
use Rattle.revision_machine.proofs.Lists.{at_none}
use Rattle.hub_core.specs.declared.status.Status.{Status}
use Rattle.hub_core.specs.declared.status.Status.TheVariants.{Gone}
use Rattle.hub_core.specs.declared.state.HubState.TheVariants.{All}
use Rattle.hub_core.specs.HubMachine.{HubMachine, numbered, values}
use Rattle.hub_core.specs.declared.desk.Desk.{Desk}
use Rattle.hub_core.specs.declared.sight.Sight.{Sight}
use Rattle.hub_core.specs.Hub.{Tied}
use Rattle.hub_core.specs.Found.{ended_here, all_over}
use Rattle.hub_core.specs.Rule.{says, done}
use Rattle.hub_core.specs.Tally.{pairs, record_at, records_of, queue_of, HasDesk, Now, AreLegal, MayEnter, Entered}
use Rattle.hub_core.proofs.Holding.{gone_if_none}
use Rattle.hub_core.proofs.Lines.{below_within}
use Rattle.hub_core.proofs.Shadowing.{record_within}
use Rattle.hub_core.proofs.Moves.{over_none, none_over}
use Rattle.hub_core.proofs.Sole.{one_hand}
use Rattle.hub_core.proofs.Staying.{entered_both}
use Rattle.turn_hub.specs.Turns.{IsIn}
use Rattle.turn_hub.specs.Plans.{CanEnter, IsEntered, HasPlan}
use Rattle.turn_hub.specs.Joinings.{IsGoneIn, IsOpenIn}
use Rattle.turn_hub.proofs.Values.{can_plan, told_plan}
use Rattle.turn_hub.proofs.Afters.{start_in, tied_in, saw_over, stands_now, counted_below, after_of}

no_items : (l : List ℕ) → length l ≡ 0 → l ≡ []
no_items [] e = refl
no_items (x ∷ l) e = absurd (omega arith)

module _ {R A E : Type 0} where
  -- a record as a read of the list
  pub record_beyond : (rs : List (Option (Status R A E))) (n : ℕ) → length rs ≤ n → record_at rs n ≡ None
  record_beyond [] n above = refl
  record_beyond (x ∷ rs) zero above = absurd (omega arith)
  record_beyond (x ∷ rs) (suc n) above = record_beyond rs n (omega arith)

  pub record_read : (rs : List (Option (Status R A E))) (n : ℕ) (other : Option (Status R A E)) → n < length rs
      → record_at rs n ≡ get_or rs n other
  record_read [] n other within = absurd (omega arith)
  record_read (x ∷ rs) zero other within = refl
  record_read (x ∷ rs) (suc n) other within = record_read rs n other (omega arith)

module _ {L R A E : Type 0} (d : HubMachine L R A E) (ends : E → L → Type 0) where
  abbrev Slots : Type 0
  Slots = List (Status R A E)

  module _ (v : Sight L) (desk : Desk R A E) (hand : HasDesk d ends v desk) (i : ℕ) where
    pub record_gone : record_at (records_of desk) i ≡ Some Gone → IsGoneIn d ends v hand.slots i
    record_gone here start log out lone slots fs now =
        ((stands_now d ends v desk hand start log out lone slots fs now).shadows.recorded i Gone here).0

    pub record_open : (x : Status R A E) → record_at (records_of desk) i ≡ Some x → ended_here (Some x) ≡ false
        → IsOpenIn d ends v hand.slots i
    record_open x here not start log out lone slots fs now =
        ap ended_here ((stands_now d ends v desk hand start log out lone slots fs now).shadows.recorded i x here).0 ∙
        not

    pub record_waits : (x : Status R A E) → record_at (records_of desk) i ≡ Some x
        → i < length (queue_of desk).waiters.items
    record_waits x here =
        (below_within d (length (records_of desk)) hand.slots (queue_of desk) i hand.queued
        (record_within (records_of desk) i x here)).1

    module _ (lent : desk.lent ≡ 0) where
      none_lone : v.lone ≡ []
      none_lone = no_items v.lone (sym hand.lent_is ∙ lent)

      pub number_gone : record_at (records_of desk) i ≡ None → i < length hand.slots
          → IsGoneIn d ends v hand.slots i
      number_gone none below start log out lone slots fs now =
          gone_if_none d ends v desk hand i lent none start log out lone slots fs now
          (let e = ap length (now.still none_lone) in omega arith)

      pub number_open : length hand.slots ≤ i → IsOpenIn d ends v hand.slots i
      number_open above start log out lone slots fs now =
          ap (λ s. ended_here (at_number s i)) (now.still none_lone) ∙ ap ended_here (at_none hand.slots i above)

  -- a plan of no deeds
  module _ (v : Sight L) (desk : Desk R A E) (hand : HasDesk d ends v desk) (free : desk.state ≡ All) where
    abbrev start : L
    start = (start_in d ends v desk hand).0

    abbrev begun : v.seat.start ≡ Some start
    begun = (start_in d ends v desk hand).1

    legal : (log out lone : List ℕ) (slots : Slots) (fs : List ℕ) → Now d ends v start hand.slots log out lone slots fs
        → AreLegal d ends v start [] None v.mine log out lone lone slots slots fs
    legal log out lone slots fs now = record {
      can = tt;
      tied = subst (λ l. Tied (numbered d) (values d ends) start l slots fs) (sym (append-nil log)) now.tied;
      outs = now.outs;
      lones = λ j. refl;
      few = now.few;
      kept = now.kept;
      over = λ o. o;
    }

    abbrev may : MayEnter d ends v [] [] None (λ n. Unit {0}) v.mine (λ l. l) (λ slots. slots)
    may = record {
      entries = refl;
      has = hand.has;
      part = hand.part;
      free = hand.halt ∙ free;
      start = start;
      begun = begun;
      slots = hand.slots;
      tied = tied_in d ends v desk hand start begun free;
      outs = hand.outs;
      saw = saw_over d ends v desk hand free;
      legal = λ log out lone slots fs now _. legal log out lone slots fs now;
    }

    pub can_look : HasPlan desk [] None None → CanEnter d ends v desk None (λ n. Unit {0})
    can_look plan = can_plan d ends v desk hand [] None None None (λ n. Unit {0}) [] (λ slots. slots) plan may refl

    module _ (w : Sight L) (count : ℕ) (plan : HasPlan desk [] None None) (told : IsEntered d ends v w desk None count)
      where
        abbrev t : Entered d ends v w start hand.slots [] None v.mine (λ l. l) count
        t = told_plan d ends v w desk hand [] None None None count plan told start begun

        both : (h : HasDesk d ends w desk) × (h.slots ≡ t.slots)
        both =
            entered_both d ends v w desk desk hand free start begun [] None v.mine (λ l. l) (λ slots. slots) count t
            (legal t.log t.out t.lone t.slots t.forkers t.now)
            (after_of d ends All v desk desk hand (length t.slots) [] t.slots t.lone
            (stands_now d ends v desk hand start t.log t.out t.lone t.slots t.forkers t.now)
            (sym (append-nil (pairs desk.journal.entries.items))) free refl (hand.lent_is ∙ sym t.now.moves.as_many)
            hand.strayed)

        pub look_below : count < 8589934592
        look_below = (counted_below d ends v w desk hand start [] None v.mine (λ l. l) count t).0

        -- the tally that is found counts the revisions
        pub look_count : (h : HasDesk d ends w desk) → count / 2 ≡ length h.slots
        look_count h =
            (counted_below d ends v w desk hand start [] None v.mine (λ l. l) count t).1
            ∙ ap length (sym both.1 ∙ one_hand d ends w desk both.0 h)

        pub look_view : (w.mine ≡ v.mine) × (w.limit ≡ v.limit) × (w.seat.turns ≡ v.seat.turns)
        look_view = (ap (λ x. x.mine) t.is, ap (λ x. x.limit) t.is, ap (λ x. x.seat.turns) t.is)

        pub look_in : (v0 : Sight L) → IsIn d ends v0 v desk → IsIn d ends v0 w desk
        look_in v0 h =
            let is = t.is in record {
              hand = both.0;
              same = (
                ap (λ x. x.seat.parts) is ∙ h.same.0,
                ap (λ x. x.seat.start) is ∙ h.same.1,
                ap (λ x. x.seat.group) is ∙ h.same.2,
                ap (λ x. x.seat.passes) is ∙ h.same.3,
                ap (λ x. x.seat.turns) is ∙ h.same.4,
                ap (λ x. x.rounds) is ∙ h.same.5,
              );
              limit = let a = h.limit in let e = ap (λ x. x.limit) is in omega arith;
              over = λ o. ap (λ x. x.seat.saw) is ∙ h.over (was_over h.hand (over_now o));
              said = ap (λ x. x.seat.said) is ∙ ap (says d ends) (sym both.1);
              entered = ap (λ x. x.seat.entered) is ∙ sym free;
              found = ap (λ x. x.seat.found) is ∙ sym (ap (λ x. x.seat.log) is);
              known = h.known;
            }
          where
            over_now : done desk.state both.0.slots ≡ true → all_over t.slots ≡ true
            over_now o = ap all_over (sym both.1) ∙ (ap (λ z. done z both.0.slots) (sym free) ∙ o)

            was_over : (hand' : HasDesk d ends v desk) → all_over t.slots ≡ true → done desk.state hand'.slots ≡ true
            was_over hand' o =
                ap (λ z. done z hand'.slots) free
                ∙ (ap all_over (one_hand d ends v desk hand' hand)
                ∙ none_over hand.slots (sym t.now.moves.count ∙ over_none t.slots o))

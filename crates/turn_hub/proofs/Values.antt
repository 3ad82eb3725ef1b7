-- A value that is changed in its plan and its room alone is in hand as before, and what is told of its plan.
use Rattle.std.proofs.Common.{◌≡◌, ℕ, List, true, false, Bool, refl, sym, ap, ◌∙◌, subst, Option, Some}
use Rattle.hub_core.specs.HubMachine.{HubMachine}
use Rattle.hub_core.specs.declared.status.Status.{Status}
use Rattle.hub_core.specs.declared.state.HubState.{HubState}
use Rattle.hub_core.specs.declared.sight.Sight.{Sight}
use Rattle.hub_core.specs.declared.desk.Desk.{Desk}
use Rattle.hub_core.specs.declared.deed.Deed.{Deed}
use Rattle.hub_core.specs.declared.deed.Plan.{Plan}
use Rattle.hub_core.specs.declared.journal.Journal.{Journal}
use Rattle.hub_core.specs.declared.records.Records.{Records}
use Rattle.hub_core.specs.Rule.{SoundFrom, IsOfGroup, done}
use Rattle.hub_core.specs.Tally.{pairs, record_at, Shadows, IsQueued, AreTracked, HasDesk, MayEnter, MayShut, Entered, Shut}
use Rattle.hub_core.specs.TallySteps.{leaving, keeping}
use Rattle.turn_hub.specs.Turns.{IsIn}
use Rattle.turn_hub.specs.Plans.{CanEnter, CanHalt, IsEntered, IsShut, SameValue, HasPlan}

module _ {R A E : Type 0} where
  -- another plan, and more room
  pub same_plan : (desk held : Desk R A E) (plan : Plan) → held ≡ desk → SameValue desk (record held { plan = plan })
  same_plan desk held plan is = record {
    entries = ap (λ x. x.journal.entries.items) is;
    limit = ap (λ x. x.journal.limit) is;
    records = ap (λ x. x.records) is;
    state = ap (λ x. x.state) is;
    lent = ap (λ x. x.lent) is;
    strays = ap (λ x. x.strays) is;
  }

  pub same_room : (desk held : Desk R A E) (journal : Journal E) (plan : Plan) → held ≡ desk
      → journal.entries.items ≡ held.journal.entries.items → journal.limit ≡ held.journal.limit
      → SameValue desk (record held { journal = journal; plan = plan })
  same_room desk held journal plan is entries limit = record {
    entries = entries ∙ ap (λ x. x.journal.entries.items) is;
    limit = limit ∙ ap (λ x. x.journal.limit) is;
    records = ap (λ x. x.records) is;
    state = ap (λ x. x.state) is;
    lent = ap (λ x. x.lent) is;
    strays = ap (λ x. x.strays) is;
  }

module _ {L R A E : Type 0} (d : HubMachine L R A E) (ends : E → L → Type 0) where
  pub hand_same : (v : Sight L) (desk desk' : Desk R A E) → HasDesk d ends v desk → SameValue desk desk'
      → HasDesk d ends v desk'
  hand_same v desk desk' hand same = record {
    has = hand.has;
    part = hand.part;
    slots = hand.slots;
    sound = subst (λ h. SoundFrom d ends v.seat.start h v.seat.log hand.slots v.forkers) (sym same.state) hand.sound;
    outs = hand.outs;
    current = hand.current;
    alone = hand.alone;
    kept = hand.kept;
    entries = ap pairs same.entries ∙ hand.entries;
    limit_is = same.limit ∙ hand.limit_is;
    lent_is = same.lent ∙ hand.lent_is;
    shadows = subst (λ (r : Records R A E). Shadows r.list.items hand.slots v.lone) (sym same.records) hand.shadows;
    queued = subst (λ (r : Records R A E). IsQueued d r.list.items hand.slots r.queue) (sym same.records) hand.queued;
    tracked = subst (λ (z : Bool × Records R A E). z.0 ≡ false → AreTracked d z.1.list.items hand.slots)
        (λ i. (sym same.strays i, sym same.records i)) hand.tracked;
    strayed = subst (λ (z : Bool × ℕ). z.0 ≡ true → z.1 ≡ 0) (λ i. (sym same.strays i, sym same.lent i)) hand.strayed;
    grouped = subst
        (λ (r : Records R A E). (j : ℕ) (x : Status R A E) → record_at r.list.items j ≡ Some x
        → IsOfGroup d ends v.seat.group x)
        (sym same.records) hand.grouped;
    saw = subst (λ h. v.seat.saw ≡ 1 → done h hand.slots ≡ true) (sym same.state) hand.saw;
    halt = hand.halt ∙ sym same.state;
  }

  pub same_slots : (v : Sight L) (desk desk' : Desk R A E) (hand : HasDesk d ends v desk) (same : SameValue desk desk')
      → (hand_same v desk desk' hand same).slots ≡ hand.slots
  unfolding hand_same
  same_slots v desk desk' hand same = refl

  pub in_same : (v w : Sight L) (desk desk' : Desk R A E) → IsIn d ends v w desk → SameValue desk desk'
      → IsIn d ends v w desk'
  unfolding hand_same
  in_same v w desk desk' h same = record {
    hand = hand_same w desk desk' h.hand same;
    same = h.same;
    limit = h.limit;
    over = subst (λ s. done s h.hand.slots ≡ true → w.seat.saw ≡ 1) (sym same.state) h.over;
    said = h.said;
    entered = h.entered ∙ sym same.state;
    found = h.found;
    known = λ n. h.known n ∙ sym same.state;
  }

  pub in_slots : (v w : Sight L) (desk desk' : Desk R A E) (h : IsIn d ends v w desk) (same : SameValue desk desk')
      → (in_same v w desk desk' h same).hand.slots ≡ h.hand.slots
  unfolding hand_same in_same
  in_slots v w desk desk' h same = refl

  -- a plan may be carried out by what it is
  pub can_plan : (v : Sight L) (desk : Desk R A E) (hand : HasDesk d ends v desk) (ds : List Deed)
      (leaves keeps : Option ℕ) (birth : Option ℕ) (fits : ℕ → Type 0) (es : List ℕ)
      (to : List (Status R A E) → List (Status R A E)) → HasPlan desk ds leaves keeps
      → (may : MayEnter d ends v ds es birth fits (keeping keeps (leaving leaves v.mine))
      (λ l. keeping keeps (leaving leaves l)) to)
      → may.slots ≡ hand.slots → CanEnter d ends v desk birth fits
  can_plan v desk hand ds leaves keeps birth fits es to plan may same =
      let both = subst
      (λ (z : List Deed × Option ℕ × Option ℕ).
      (m : MayEnter d ends v z.0 es birth fits (keeping z.2 (leaving z.1 v.mine)) (λ l. keeping z.2 (leaving z.1 l)) to)
      × (m.slots ≡ hand.slots))
      (λ i. (sym plan.0 i, sym plan.1 i, sym plan.2 i)) (may, same) in
      record { hand = hand; es = es; to = to; may = both.0; same = both.1 }

  pub told_plan : (v w : Sight L) (desk : Desk R A E) (hand : HasDesk d ends v desk) (ds : List Deed)
      (leaves keeps : Option ℕ) (birth : Option ℕ) (count : ℕ) → HasPlan desk ds leaves keeps
      → IsEntered d ends v w desk birth count → (start : L) → v.seat.start ≡ Some start
      → Entered d ends v w start hand.slots ds birth (keeping keeps (leaving leaves v.mine))
      (λ l. keeping keeps (leaving leaves l)) count
  told_plan v w desk hand ds leaves keeps birth count plan told start begun =
      subst
      (λ (z : List Deed × Option ℕ × Option ℕ).
      Entered d ends v w start hand.slots z.0 birth (keeping z.2 (leaving z.1 v.mine))
      (λ l. keeping z.2 (leaving z.1 l)) count)
      (λ i. (plan.0 i, plan.1 i, plan.2 i)) (told start hand begun)

  -- the same with a halt
  pub can_shut : (h : HubState) (v : Sight L) (desk : Desk R A E) (hand : HasDesk d ends v desk) (ds : List Deed)
      (leaves keeps : Option ℕ) (to : List (Status R A E) → List (Status R A E)) → HasPlan desk ds leaves keeps
      → (may : MayShut d ends h v ds (keeping keeps (leaving leaves v.mine)) (λ l. keeping keeps (leaving leaves l)) to)
      → may.slots ≡ hand.slots → CanHalt d ends h v desk
  can_shut h v desk hand ds leaves keeps to plan may same =
      let both = subst
      (λ (z : List Deed × Option ℕ × Option ℕ).
      (m : MayShut d ends h v z.0 (keeping z.2 (leaving z.1 v.mine)) (λ l. keeping z.2 (leaving z.1 l)) to)
      × (m.slots ≡ hand.slots))
      (λ i. (sym plan.0 i, sym plan.1 i, sym plan.2 i)) (may, same) in
      record { hand = hand; to = to; may = both.0; same = both.1 }

  pub told_shut : (h : HubState) (v w : Sight L) (desk : Desk R A E) (hand : HasDesk d ends v desk) (ds : List Deed)
      (leaves keeps : Option ℕ) → HasPlan desk ds leaves keeps → IsShut d ends h v w desk
      → (start : L) → v.seat.start ≡ Some start
      → Shut d ends h v w start hand.slots ds (keeping keeps (leaving leaves v.mine))
      (λ l. keeping keeps (leaving leaves l))
  told_shut h v w desk hand ds leaves keeps plan told start begun =
      subst
      (λ (z : List Deed × Option ℕ × Option ℕ).
      Shut d ends h v w start hand.slots z.0 (keeping z.2 (leaving z.1 v.mine)) (λ l. keeping z.2 (leaving z.1 l)))
      (λ i. (plan.0 i, plan.1 i, plan.2 i)) (told start hand begun)

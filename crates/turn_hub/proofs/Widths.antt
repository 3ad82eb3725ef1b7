-- A value with more room is in hand as before, also where the limit is raised.
use Rattle.std.proofs.Common.{◌≡◌, ◌≤◌, ℕ, Bool, true, false, Some, refl, sym, ap, ◌∙◌, subst}
use Rattle.hub_core.specs.HubMachine.{HubMachine}
use Rattle.hub_core.specs.declared.status.Status.{Status}
use Rattle.hub_core.specs.declared.desk.Desk.{Desk}
use Rattle.hub_core.specs.declared.records.Records.{Records}
use Rattle.hub_core.specs.declared.sight.Sight.{Sight}
use Rattle.hub_core.specs.Rule.{SoundFrom, IsOfGroup, done, says}
use Rattle.hub_core.specs.Tally.{pairs, record_at, Shadows, IsQueued, AreTracked, HasDesk, makes_room}
use Rattle.turn_hub.specs.Turns.{IsIn}
use Rattle.turn_hub.specs.Plans.{SameValue, HasMoreRoom}
use Rattle.turn_hub.proofs.Values.{hand_same, in_same}
use Rattle.turn_hub.proofs.Lending.{hand_longer, in_longer}

module _ {L R A E : Type 0} (d : HubMachine L R A E) (ends : E → L → Type 0) where
  same_as : (desk desk' : Desk R A E) → HasMoreRoom desk desk' → SameValue (record desk { records = desk'.records })
      desk'
  same_as desk desk' more = record {
    entries = more.entries;
    limit = more.limit;
    records = refl;
    state = more.state;
    lent = more.lent;
    strays = more.strays;
  }

  pub hand_room : (v : Sight L) (desk desk' : Desk R A E) → HasDesk d ends v desk → HasMoreRoom desk desk'
      → HasDesk d ends v desk'
  hand_room v desk desk' hand more =
      hand_same d ends v (record desk { records = desk'.records }) desk'
      (hand_longer d ends v desk desk desk'.records desk.plan hand refl more.longer) (same_as desk desk' more)

  pub in_room : (v w : Sight L) (desk desk' : Desk R A E) → IsIn d ends v w desk → HasMoreRoom desk desk'
      → IsIn d ends v w desk'
  in_room v w desk desk' h more =
      in_same d ends v w (record desk { records = desk'.records }) desk'
      (in_longer d ends v w desk desk desk'.records desk.plan h refl more.longer) (same_as desk desk' more)

  -- the limit is raised
  wide_both : (v : Sight L) (desk desk' : Desk R A E) (hand : HasDesk d ends v desk)
      → desk'.journal.entries.items ≡ desk.journal.entries.items → desk'.records ≡ desk.records
      → desk'.state ≡ desk.state → desk'.lent ≡ desk.lent → desk'.strays ≡ desk.strays
      → (h : HasDesk d ends (makes_room desk'.journal.limit v) desk') × (h.slots ≡ hand.slots)
  wide_both v desk desk' hand entries records state lent strays = (
    record {
      has = hand.has;
      part = hand.part;
      slots = hand.slots;
      sound = subst (λ h. SoundFrom d ends v.seat.start h v.seat.log hand.slots v.forkers) (sym state) hand.sound;
      outs = hand.outs;
      current = hand.current;
      alone = hand.alone;
      kept = hand.kept;
      entries = ap pairs entries ∙ hand.entries;
      limit_is = refl;
      lent_is = lent ∙ hand.lent_is;
      shadows = subst (λ (r : Records R A E). Shadows r.list.items hand.slots v.lone) (sym records) hand.shadows;
      queued = subst (λ (r : Records R A E). IsQueued d r.list.items hand.slots r.queue) (sym records) hand.queued;
      tracked = subst (λ (z : Bool × Records R A E). z.0 ≡ false → AreTracked d z.1.list.items hand.slots)
          (λ i. (sym strays i, sym records i)) hand.tracked;
      strayed = subst (λ (z : Bool × ℕ). z.0 ≡ true → z.1 ≡ 0) (λ i. (sym strays i, sym lent i)) hand.strayed;
      grouped = subst
          (λ (r : Records R A E). (j : ℕ) (x : Status R A E) → record_at r.list.items j ≡ Some x
          → IsOfGroup d ends v.seat.group x)
          (sym records) hand.grouped;
      saw = subst (λ h. v.seat.saw ≡ 1 → done h hand.slots ≡ true) (sym state) hand.saw;
      halt = hand.halt ∙ sym state;
    },
    refl,
  )

  pub hand_wide : (v : Sight L) (desk desk' : Desk R A E) → HasDesk d ends v desk
      → desk'.journal.entries.items ≡ desk.journal.entries.items → desk'.records ≡ desk.records
      → desk'.state ≡ desk.state → desk'.lent ≡ desk.lent → desk'.strays ≡ desk.strays
      → HasDesk d ends (makes_room desk'.journal.limit v) desk'
  hand_wide v desk desk' hand entries records state lent strays =
      (wide_both v desk desk' hand entries records state lent strays).0

  pub in_wide : (v w : Sight L) (desk desk' : Desk R A E) → IsIn d ends v w desk
      → desk'.journal.entries.items ≡ desk.journal.entries.items → desk'.records ≡ desk.records
      → desk'.state ≡ desk.state → desk'.lent ≡ desk.lent → desk'.strays ≡ desk.strays
      → v.limit ≤ desk'.journal.limit → IsIn d ends v (makes_room desk'.journal.limit w) desk'
  in_wide v w desk desk' h entries records state lent strays limit =
      let both = wide_both w desk desk' h.hand entries records state lent strays in record {
        hand = both.0;
        same = h.same;
        limit = limit;
        over = λ o. h.over (ap (λ s. done s h.hand.slots) (sym state) ∙ (ap (done desk'.state) (sym both.1) ∙ o));
        said = h.said ∙ ap (says d ends) (sym both.1);
        entered = h.entered ∙ sym state;
        found = h.found;
        known = λ q. h.known q ∙ sym state;
      }

-- A joiner waits for what has not ended, and is handed in without an entry.
use Rattle.std.proofs.Common.{◌≡◌, ℕ, ◌<◌, false, [], ◌∷◌, length, refl, sym, ap, ◌∙◌, subst, Some, None}
use Rattle.revision_machine.specs.Numbered.{at_number}
use Rattle.hub_core.specs.declared.status.Status.{Status}
use Rattle.hub_core.specs.declared.status.Status.TheVariants.{Out, Waiting}
use Rattle.hub_core.specs.declared.state.HubState.TheVariants.{All}
use Rattle.hub_core.specs.HubMachine.{HubMachine}
use Rattle.hub_core.specs.declared.desk.Desk.{Desk}
use Rattle.hub_core.specs.declared.deed.Deed.TheVariants.{HandsIn}
use Rattle.hub_core.specs.declared.sight.Sight.{Sight}
use Rattle.hub_core.specs.declared.view.View.{View}
use Rattle.hub_core.specs.Chains.{DelaysOne}
use Rattle.hub_core.specs.Counts.{times}
use Rattle.hub_core.specs.Found.{ended_here}
use Rattle.hub_core.specs.Passes.{named}
use Rattle.hub_core.specs.Recorded.{put_record}
use Rattle.hub_core.specs.Seats.{HasJoin}
use Rattle.hub_core.specs.Views.{rests}
use Rattle.hub_core.specs.Rule.{says}
use Rattle.hub_core.specs.Tally.{record_at, records_of, queue_of, found_in, HasDesk, Entered, gives_back}
use Rattle.hub_core.proofs.Passes.{pass_named}
use Rattle.hub_core.proofs.Rests.{lacks_in}
use Rattle.hub_core.proofs.Standing.{stands_wait}
use Rattle.turn_hub.specs.Answers.{Waited}
use Rattle.turn_hub.proofs.Says.{where_waits}
use Rattle.turn_hub.specs.Turns.{IsIn}
use Rattle.turn_hub.specs.Plans.{IsEntered, HasPlan}
use Rattle.turn_hub.specs.Joinings.{IsOpenIn}
use Rattle.turn_hub.proofs.Finding.{found_at, keeps_in}
use Rattle.turn_hub.proofs.Afters.{stands_now, out_now, record_now, within_now}
use Rattle.turn_hub.proofs.Hands.{hand_told, hand_record, hand_by, may_wait}

module _ {L R A E : Type 0} (d : HubMachine L R A E) (ends : E → L → Type 0) where
  module _ (v : Sight L) (desk : Desk R A E) (hand : HasDesk d ends v desk) (free : desk.state ≡ All) (mine : v.mine
      ≡ [])
      (k : ℕ) (a : A) (p : HasJoin d ends v.seat k a) (open_in : IsOpenIn d ends v hand.slots (d.on a))
      (w : Sight L) (count : ℕ) (plan : HasPlan desk (HandsIn k ∷ []) None None)
      (told : IsEntered d ends v w desk None count) where
    abbrev pos : 0 < named k v.seat.passes
    pos = pass_named v.seat.passes k p.1 p.3

    abbrev t : Entered d ends v w p.0 hand.slots (HandsIn k ∷ []) None v.mine (λ l. l) count
    t = hand_told d ends v desk hand free mine k pos (Waiting a) p.0 p.2 (may_wait d ends v desk hand free mine k a p) w
        count plan told

    open_now : ended_here (at_number t.slots (d.on a)) ≡ false
    open_now = open_in p.0 t.log t.out t.lone t.slots t.forkers t.now

    pub await_hand : (desk' : Desk R A E) → d.joiner_group a ≡ v.seat.group
        → (desk.strays ≡ false → (z : Status R A E) × (record_at (records_of desk) (d.on a) ≡ Some z))
        → desk'.records.list.items ≡ put_record (records_of desk) k (Waiting a)
        → DelaysOne (queue_of desk) (queue_of desk') k (d.on a) → desk'.journal ≡ desk.journal
        → desk'.state ≡ desk.state → desk'.lent ≡ desk.lent → desk'.strays ≡ desk.strays → HasDesk d ends w desk'
    await_hand desk' group recorded records queue journal state lent strays =
        let may = may_wait d ends v desk hand free mine k a p in
        let st = stands_now d ends v desk hand p.0 t.log t.out t.lone t.slots t.forkers t.now in
        let here = hand_record d ends v desk hand free mine k pos (Waiting a) p.0 p.2 may w count plan told in
        hand_by d ends v desk hand free mine k pos (Waiting a) p.0 p.2 may w count plan told desk'
        (stands_wait d ends v.seat.group (records_of desk) (queue_of desk) t.slots t.lone desk.strays st k a
        (queue_of desk') here.0 open_now queue group recorded)
        records journal state lent strays

    pub await_says : (v0 y : Sight L) → IsIn d ends v0 v desk → y ≡ gives_back w → Waited d ends v0.seat y.seat k a
    await_says v0 y h is =
        let u = found_in t.log t.out (says d ends t.slots) v.seat in
        let f = found_at d ends v0 v desk t.log t.out t.slots h free in
        subst (λ (z : View L). Waited d ends v0.seat z k a) (sym (ap (λ z. z.seat) is ∙ ap (λ z. rests z.seat) t.is))
        record {
          free = f.entered;
          keeps = keeps_in d ends f k;
          gone = lacks_in d ends u k;
          entry = sym f.found;
          unfinished = where_waits d ends (says d ends t.slots) t.slots (d.on a) refl open_now;
        }

  -- a joiner whose joinee the seat has too
  module _ (v : Sight L) (desk : Desk R A E) (hand : HasDesk d ends v desk) (free : desk.state ≡ All) (mine : v.mine
      ≡ [])
      (k : ℕ) (a : A) (p : HasJoin d ends v.seat k a) (other : 0 < named (d.on a) v.seat.passes) where
    still_open : IsOpenIn d ends v hand.slots (d.on a)
    still_open start log out lone slots fs now =
        ap ended_here (out_now d ends v desk hand start log out lone slots fs now (d.on a) other)

    module _ (w : Sight L) (count : ℕ) (plan : HasPlan desk (HandsIn k ∷ []) None None)
        (told : IsEntered d ends v w desk None count) where
      abbrev at_plan : Entered d ends v w p.0 hand.slots (HandsIn k ∷ []) None v.mine (λ l. l) count
      at_plan =
          hand_told d ends v desk hand free mine k (pass_named v.seat.passes k p.1 p.3) (Waiting a) p.0 p.2
          (may_wait d ends v desk hand free mine k a p) w count plan told

      pub wait_within : d.on a < length (queue_of desk).waiters.items
      wait_within =
          let t = at_plan in
          (within_now d ends v desk hand p.0 t.log t.out t.lone t.slots t.forkers t.now (d.on a) other
          (ap (times (d.on a)) mine)).1.0

      pub wait_hand : (desk' : Desk R A E) → d.joiner_group a ≡ v.seat.group
          → desk'.records.list.items ≡ put_record (records_of desk) k (Waiting a)
          → DelaysOne (queue_of desk) (queue_of desk') k (d.on a) → desk'.journal ≡ desk.journal
          → desk'.state ≡ desk.state → desk'.lent ≡ desk.lent → desk'.strays ≡ desk.strays → HasDesk d ends w desk'
      wait_hand desk' group records queue journal state lent strays =
          let t = at_plan in
          await_hand v desk hand free mine k a p still_open w count plan told desk' group
          (λ q. (
            Out,
            record_now d ends v desk hand p.0 t.log t.out t.lone t.slots t.forkers t.now (d.on a) other
                (ap (times (d.on a)) mine),
          ))
          records queue journal state lent strays

      pub wait_says : (v0 y : Sight L) → IsIn d ends v0 v desk → y ≡ gives_back w → Waited d ends v0.seat y.seat k a
      wait_says v0 y h is = await_says v desk hand free mine k a p still_open w count plan told v0 y h is

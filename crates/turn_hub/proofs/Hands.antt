-- A revision is handed in without an entry: it is before its leg, or it waits.
use Rattle.std.proofs.Common.{◌≡◌, ℕ, ◌<◌, Bool, List, [], ◌∷◌, length, refl, sym, ap, ◌∙◌, subst, append-nil, Option, Some, None}
use Rattle.revision_machine.specs.Numbered.{put_number}
use Rattle.hub_core.specs.declared.status.Status.{Status}
use Rattle.hub_core.specs.declared.status.Status.TheVariants.{Ready, Out, Waiting}
use Rattle.hub_core.specs.declared.state.HubState.TheVariants.{All}
use Rattle.hub_core.specs.HubMachine.{HubMachine}
use Rattle.hub_core.specs.declared.desk.Desk.{Desk}
use Rattle.hub_core.specs.declared.deed.Deed.TheVariants.{HandsIn}
use Rattle.hub_core.specs.declared.sight.Sight.{Sight}
use Rattle.hub_core.specs.declared.view.View.{View}
use Rattle.hub_core.specs.Chains.{ReadiesOne}
use Rattle.hub_core.specs.Counts.{times}
use Rattle.hub_core.specs.Passes.{named}
use Rattle.hub_core.specs.Recorded.{put_record}
use Rattle.hub_core.specs.Seats.{HasState, HasJoin}
use Rattle.hub_core.specs.Views.{hands_in, rests}
use Rattle.hub_core.specs.Rule.{says}
use Rattle.hub_core.specs.Tally.{pairs, record_at, records_of, queue_of, found_in, HasDesk, Now, AreLegal, MayEnter, Entered, gives_back}
use Rattle.hub_core.proofs.Passes.{pass_named}
use Rattle.hub_core.proofs.Rests.{lacks_in}
use Rattle.hub_core.proofs.Moments.{Moment, leaves_none, state_at, back_moment, wait_moment, legal_by}
use Rattle.hub_core.proofs.Standing.{Stands, stands_back}
use Rattle.hub_core.proofs.Staying.{entered_hand}
use Rattle.turn_hub.specs.Keeping.{HandedBack}
use Rattle.turn_hub.specs.Turns.{IsIn}
use Rattle.turn_hub.specs.Plans.{CanEnter, IsEntered, HasPlan}
use Rattle.turn_hub.proofs.Values.{can_plan, told_plan}
use Rattle.turn_hub.proofs.Finding.{found_at, keeps_in}
use Rattle.turn_hub.proofs.Afters.{not_over, tied_in, saw_over, stands_now, moment, out_now, not_lone, record_now, within_now, after_of, rests_entered}

module _ {L R A E : Type 0} (d : HubMachine L R A E) (ends : E → L → Type 0) where
  abbrev Slots : Type 0
  Slots = List (Status R A E)

  -- at each moment the revision may be handed in as this status
  abbrev pub MayHand : (v : Sight L) (desk : Desk R A E) → HasDesk d ends v desk → ℕ → Status R A E → L → Type 0
  MayHand v desk hand k x start =
      (log out lone : List ℕ) (slots : Slots) (fs : List ℕ) → Now d ends v start hand.slots log out lone slots fs
      → times k lone ≡ 0 → times k v.mine ≡ 0
      → Moment d ends start (hands_in k (found_in log out (says d ends slots) v.seat)) (put_number slots k x) fs
      lone v.mine

  module _ (v : Sight L) (desk : Desk R A E) (hand : HasDesk d ends v desk) (free : desk.state ≡ All) (mine : v.mine
      ≡ [])
      (k : ℕ) (pos : 0 < named k v.seat.passes) (x : Status R A E) (start : L) (begun : v.seat.start ≡ Some start)
      (may_hand : MayHand v desk hand k x start) where
    not_mine : times k v.mine ≡ 0
    not_mine = ap (times k) mine

    abbrev to : Slots → Slots
    to slots = put_number slots k x

    module _ (log out lone : List ℕ) (slots : Slots) (fs : List ℕ)
        (now : Now d ends v start hand.slots log out lone slots fs) where
      legal : AreLegal d ends v start (HandsIn k ∷ []) None v.mine log out lone lone slots (to slots) fs
      legal =
          legal_by d ends v start hand.slots log out lone slots fs now (HandsIn k ∷ []) None lone v.mine (to slots)
          (pos, tt)
          (may_hand log out lone slots fs now
          (not_lone d ends v desk hand start log out lone slots fs now k pos not_mine) not_mine)
          (λ j. refl)
          (λ o. not_over d ends slots k (out_now d ends v desk hand start log out lone slots fs now k pos) o)

    abbrev may : MayEnter d ends v (HandsIn k ∷ []) [] None (λ n. Unit {0}) v.mine (λ l. l) to
    may = record {
      entries = refl;
      has = hand.has;
      part = hand.part;
      free = hand.halt ∙ free;
      start = start;
      begun = begun;
      slots = hand.slots;
      tied = tied_in d ends v desk hand start begun free;
      outs = hand.outs;
      saw = saw_over d ends v desk hand free;
      legal = λ log out lone slots fs now _. legal log out lone slots fs now;
    }

    pub can_hand : HasPlan desk (HandsIn k ∷ []) None None → CanEnter d ends v desk None (λ n. Unit {0})
    can_hand plan = can_plan d ends v desk hand (HandsIn k ∷ []) None None None (λ n. Unit {0}) [] to plan may refl

    module _ (w : Sight L) (count : ℕ) (plan : HasPlan desk (HandsIn k ∷ []) None None)
        (told : IsEntered d ends v w desk None count) where
      abbrev pub hand_told : Entered d ends v w start hand.slots (HandsIn k ∷ []) None v.mine (λ l. l) count
      hand_told = told_plan d ends v w desk hand (HandsIn k ∷ []) None None None count plan told start begun

      pub hand_record : (record_at (records_of desk) k ≡ Some Out) × (k < length (queue_of desk).links.items)
      hand_record = let t = hand_told in (
        record_now d ends v desk hand start t.log t.out t.lone t.slots t.forkers t.now k pos not_mine,
        (within_now d ends v desk hand start t.log t.out t.lone t.slots t.forkers t.now k pos not_mine).0,
      )

      pub hand_rests : (y : Sight L) → y ≡ gives_back w
          → (y.seat.parts ≡ v.seat.parts) × (y.seat.turns ≡ y.seat.log ∷ v.seat.turns) × (y.rounds ≡ v.rounds)
          × (y.limit ≡ v.limit) × (y.mine ≡ v.mine)
      hand_rests y is =
          let t = hand_told in
          rests_entered d ends v w y start hand.slots (HandsIn k ∷ []) None v.mine (λ l. l) count t
          (legal t.log t.out t.lone t.slots t.forkers t.now).can is

      pub hand_by : (desk' : Desk R A E)
          → Stands d ends v.seat.group (put_record (records_of desk) k x) (queue_of desk') (to hand_told.slots)
          hand_told.lone
          desk.strays
          → desk'.records.list.items ≡ put_record (records_of desk) k x → desk'.journal ≡ desk.journal
          → desk'.state ≡ desk.state → desk'.lent ≡ desk.lent → desk'.strays ≡ desk.strays → HasDesk d ends w desk'
      hand_by desk' st records journal state lent strays =
          let t = hand_told in
          entered_hand d ends v w desk desk' hand free start begun (HandsIn k ∷ []) None v.mine (λ l. l) to count t
          (legal t.log t.out t.lone t.slots t.forkers t.now)
          (after_of d ends All v desk desk' hand (length t.slots) (HandsIn k ∷ []) (to t.slots) t.lone
          (subst
          (λ (z : List (Option (Status R A E)) × Bool).
          Stands d ends v.seat.group z.0 (queue_of desk') (to t.slots) t.lone z.1)
          (λ i. (sym records i, sym strays i)) st)
          (ap (λ j. pairs j.entries.items) journal ∙ sym (append-nil (pairs desk.journal.entries.items)))
          (state ∙ free) (ap (λ j. j.limit) journal) (lent ∙ (hand.lent_is ∙ sym t.now.moves.as_many))
          (λ s. lent ∙ hand.strayed (sym strays ∙ s)))

  -- a revision that is before its leg
  module _ (v : Sight L) (desk : Desk R A E) (hand : HasDesk d ends v desk) (free : desk.state ≡ All) (mine : v.mine
      ≡ [])
      (k : ℕ) (c : R) (p : HasState d ends v.seat k (d.runs c)) where
    abbrev pub may_back : MayHand v desk hand k (Ready c) p.0
    may_back = λ log out lone slots fs now none not.
        let u = found_in log out (says d ends slots) v.seat in
        let m = moment d ends v desk hand p.0 log out lone slots fs now in
        back_moment d ends p.0 u slots fs lone v.mine m k c lone v.mine (pass_named v.seat.passes k p.1 p.3)
        (state_at d ends p.0 u slots fs lone v.mine m k p.1 (d.runs c) p.3 p.4) (leaves_none k lone none)
        (leaves_none k v.mine not)

    pub back_hand : (w : Sight L) (count : ℕ) (plan : HasPlan desk (HandsIn k ∷ []) None None)
        (told : IsEntered d ends v w desk None count) (desk' : Desk R A E) → d.runner_group c ≡ v.seat.group
        → desk'.records.list.items ≡ put_record (records_of desk) k (Ready c)
        → ReadiesOne (queue_of desk) (queue_of desk') k → desk'.journal ≡ desk.journal
        → desk'.state ≡ desk.state → desk'.lent ≡ desk.lent → desk'.strays ≡ desk.strays → HasDesk d ends w desk'
    back_hand w count plan told desk' group records queue journal state lent strays =
        let pos = pass_named v.seat.passes k p.1 p.3 in
        let t = hand_told v desk hand free mine k pos (Ready c) p.0 p.2 may_back w count plan told in
        let st = stands_now d ends v desk hand p.0 t.log t.out t.lone t.slots t.forkers t.now in
        let here = hand_record v desk hand free mine k pos (Ready c) p.0 p.2 may_back w count plan told in
        hand_by v desk hand free mine k pos (Ready c) p.0 p.2 may_back w count plan told desk'
        (stands_back d ends v.seat.group (records_of desk) (queue_of desk) t.slots t.lone desk.strays st k c
        (queue_of desk') here.0 queue group)
        records journal state lent strays

    pub back_says : (w : Sight L) (count : ℕ) (plan : HasPlan desk (HandsIn k ∷ []) None None)
        (told : IsEntered d ends v w desk None count) (v0 y : Sight L) → IsIn d ends v0 v desk → y ≡ gives_back w
        → HandedBack d ends v0.seat y.seat k
    back_says w count plan told v0 y h is =
        let pos = pass_named v.seat.passes k p.1 p.3 in
        let t = hand_told v desk hand free mine k pos (Ready c) p.0 p.2 may_back w count plan told in
        let u = found_in t.log t.out (says d ends t.slots) v.seat in
        let f = found_at d ends v0 v desk t.log t.out t.slots h free in
        subst (λ (z : View L). HandedBack d ends v0.seat z k) (sym (ap (λ z. z.seat) is ∙ ap (λ z. rests z.seat) t.is))
        record {
          free = f.entered;
          keeps = keeps_in d ends f k;
          gone = lacks_in d ends u k;
          entry = sym f.found;
        }

  -- a joiner
  module _ (v : Sight L) (desk : Desk R A E) (hand : HasDesk d ends v desk) (free : desk.state ≡ All) (mine : v.mine
      ≡ [])
      (k : ℕ) (a : A) (p : HasJoin d ends v.seat k a) where
    abbrev pub may_wait : MayHand v desk hand k (Waiting a) p.0
    may_wait = λ log out lone slots fs now none not.
        let u = found_in log out (says d ends slots) v.seat in
        let m = moment d ends v desk hand p.0 log out lone slots fs now in
        wait_moment d ends p.0 u slots fs lone v.mine m k a lone v.mine (pass_named v.seat.passes k p.1 p.3)
        (record {
          state = p.4.state;
          stands = state_at d ends p.0 u slots fs lone v.mine m k p.1 p.4.state p.3 p.4.stands;
          comes = p.4.comes;
        })
        (leaves_none k lone none) (leaves_none k v.mine not)

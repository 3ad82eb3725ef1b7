-- A join of what was joined: its entry is the last, and Twice is entered.
use Rattle.std.proofs.Common.{◌≡◌, ℕ, ◌*◌, ◌/◌, ◌<◌, Bool, List, [], ◌∷◌, ◌++◌, length, refl, sym, ap, ◌∙◌, subst, arith, Option, None}
use Rattle.hub_core.specs.declared.status.Status.TheVariants.{Gone}
use Rattle.hub_core.specs.declared.state.HubState.TheVariants.{All, Twice}
use Rattle.hub_core.specs.HubMachine.{HubMachine}
use Rattle.hub_core.specs.declared.desk.Desk.{Desk}
use Rattle.hub_core.specs.declared.deed.Deed.{Deed}
use Rattle.hub_core.specs.declared.deed.Deed.TheVariants.{Commits}
use Rattle.hub_core.specs.declared.records.Records.{Records}
use Rattle.hub_core.specs.declared.sight.Sight.{Sight}
use Rattle.hub_core.specs.declared.view.View.{View}
use Rattle.hub_core.specs.Rounds.{stamped}
use Rattle.hub_core.specs.Seats.{HasJoin}
use Rattle.hub_core.specs.Views.{rests}
use Rattle.hub_core.specs.Rule.{says}
use Rattle.hub_core.specs.Tally.{pairs, found_in, HasDesk, IsLast, MayShut, Shut, gives_back, shuts}
use Rattle.hub_core.specs.TallySteps.{leaving, keeping}
use Rattle.hub_core.proofs.Holding.{may_stop}
use Rattle.hub_core.proofs.Standing.{Stands}
use Rattle.hub_core.proofs.Staying.{shut_hand}
use Rattle.turn_hub.specs.Answers.{MetTwice}
use Rattle.turn_hub.proofs.Says.{where_run}
use Rattle.turn_hub.specs.Turns.{IsIn}
use Rattle.turn_hub.specs.Plans.{CanHalt, HasPlan}
use Rattle.turn_hub.specs.Joinings.{IsGoneIn, IsShutAt}
use Rattle.turn_hub.proofs.Values.{can_shut}
use Rattle.turn_hub.proofs.Finding.{found_at, keeps_commit}
use Rattle.turn_hub.proofs.Afters.{stands_now, after_of}

module _ {L R A E : Type 0} (d : HubMachine L R A E) (ends : E → L → Type 0) where
  module _ (v : Sight L) (desk : Desk R A E) (hand : HasDesk d ends v desk) (free : desk.state ≡ All) (k : ℕ) (a : A)
      (p : HasJoin d ends v.seat k a) (gone : IsGoneIn d ends v hand.slots (d.on a)) where
    abbrev ds : List Deed
    ds = Commits k ∷ []

    abbrev may : MayShut d ends Twice v ds v.mine (λ l. l) (λ slots. slots)
    may = may_stop d ends v desk hand free k a p (λ log out lone slots fs now. gone p.0 log out lone slots fs now)

    pub can_stop : HasPlan desk ds None None → CanHalt d ends Twice v desk
    can_stop plan = can_shut d ends Twice v desk hand ds None None (λ slots. slots) plan may refl

    module _ (w : Sight L) (count : ℕ) (plan : HasPlan desk ds None None)
        (told : IsShutAt d ends Twice v w desk count) where
      pub closed : (sh : Shut d ends Twice v w p.0 hand.slots ds v.mine (λ l. l)) × (count ≡ 2 * length sh.slots)
      closed =
          subst
          (λ (z : List Deed × Option ℕ × Option ℕ).
          (sh : Shut d ends Twice v w p.0 hand.slots z.0 (keeping z.2 (leaving z.1 v.mine)) (λ l. keeping z.2 (leaving
          z.1 l)))
          × (count ≡ 2 * length sh.slots))
          (λ i. (plan.0 i, plan.1 i, plan.2 i)) (told p.0 hand p.2)

      abbrev pub stop_shut : Shut d ends Twice v w p.0 hand.slots ds v.mine (λ l. l)
      stop_shut = closed.0

      last : IsLast d ends Twice v p.0 ds v.mine stop_shut.log stop_shut.out stop_shut.lone stop_shut.lone
          stop_shut.slots
          stop_shut.slots stop_shut.forkers
      last = let t = stop_shut in may.legal t.log t.out t.lone t.slots t.forkers t.now

      pub stop_count : (count < 8589934592) × (count / 2 ≡ length stop_shut.slots)
      stop_count =
          let a = closed.1 in
          let b = stop_shut.now.roomy in
          let c = hand.limit_is in
          let e = desk.journal.few in
          (omega arith, omega arith)

      pub stop_hand : (desk' : Desk R A E) → desk'.records ≡ desk.records
          → pairs desk'.journal.entries.items ≡ pairs desk.journal.entries.items ++ stamped (length stop_shut.slots)
          (k ∷ [])
          → desk'.journal.limit ≡ desk.journal.limit → desk'.lent ≡ desk.lent → desk'.strays ≡ desk.strays
          → desk'.state ≡ Twice → HasDesk d ends w desk'
      stop_hand desk' records entries limit lent strays state =
          let t = stop_shut in
          let st = stands_now d ends v desk hand p.0 t.log t.out t.lone t.slots t.forkers t.now in
          shut_hand d ends Twice v w desk desk' hand (λ q. cc) p.0 p.2 ds v.mine (λ l. l) (λ slots. slots) t last
          (after_of d ends Twice v desk desk' hand (length t.slots) ds t.slots t.lone
          (subst
          (λ (z : Records R A E × Bool). Stands d ends v.seat.group z.0.list.items z.0.queue t.slots t.lone z.1)
          (λ i. (sym records i, sym strays i)) st)
          entries state limit (lent ∙ (hand.lent_is ∙ sym t.now.moves.as_many))
          (λ s. lent ∙ hand.strayed (sym strays ∙ s)))

      pub stop_rests : (x : Sight L) → x ≡ gives_back w
          → (x.seat.parts ≡ v.seat.parts) × (x.seat.turns ≡ x.seat.log ∷ v.seat.turns) × (x.rounds ≡ v.rounds)
          × (x.limit ≡ v.limit) × (x.mine ≡ v.mine)
      stop_rests x is =
          let t = stop_shut in
          let e : x ≡ gives_back (shuts Twice t.log t.forkers t.out (says d ends t.slots) ds (length t.slots) v.mine
          t.lone v) = is ∙ ap gives_back t.is in
          subst (λ (y : Sight L).
          (y.seat.parts ≡ v.seat.parts) × (y.seat.turns ≡ y.seat.log ∷ v.seat.turns) × (y.rounds ≡ v.rounds)
          × (y.limit ≡ v.limit) × (y.mine ≡ v.mine))
          (sym e) (refl, refl, refl, refl, refl)

      pub stop_says : (v0 x : Sight L) → IsIn d ends v0 v desk → x ≡ gives_back w
          → MetTwice d ends v0.seat x.seat k a
      stop_says v0 x h is =
          let t = stop_shut in
          let u = found_in t.log t.out (says d ends t.slots) v.seat in
          let f = found_at d ends v0 v desk t.log t.out t.slots h free in
          let keeps = keeps_commit d ends f k in
          subst (λ (y : View L). MetTwice d ends v0.seat y k a)
          (sym (ap (λ y. y.seat) is ∙ ap (λ y. rests y.seat) t.is)) record {
            free = f.entered;
            keeps = (keeps.0, keeps.1, keeps.2, λ n. absurd (n (h.known n ∙ free)));
            entry = ap (λ l. l ++ k ∷ []) (sym f.found);
            joined = where_run d ends (says d ends t.slots) t.slots (d.on a) Gone refl
                (gone p.0 t.log t.out t.lone t.slots t.forkers t.now);
            halt = refl;
            saw = refl;
          }

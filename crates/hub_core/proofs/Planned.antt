-- The steps of a plan, told of whatever statuses the seat knows that its value stands for.
use Rattle.std.proofs.Common.{◌≡◌, ℕ, ◌+◌, ◌*◌, ◌%◌, ◌<◌, List, [], ◌∷◌, length, eqb, get_or, sym, ap, ◌∙◌, subst, arith, Option, Some, None}
use Rattle.std.specs.Global.{Box}
use mathlib.Core.Option as opt
use prog.Atomic.{either}
use Rattle.atomic_table.specs.Table.{State, Me, Step, step, carried_after, Allows}
use Rattle.revision_machine.proofs.Paths.{some_inj}
use Rattle.hub_core.specs.declared.status.Status.{Status}
use Rattle.hub_core.specs.declared.state.HubState.{HubState}
use Rattle.hub_core.specs.declared.desk.Desk.{Desk}
use Rattle.hub_core.specs.declared.desk.DeskSlot.{DeskSlot}
use Rattle.hub_core.specs.declared.desk.DeskSlot.TheVariants.{Home, Away, Told}
use Rattle.hub_core.specs.declared.sight.Sight.{Sight}
use Rattle.hub_core.specs.HubMachine.{HubMachine}
use Rattle.hub_core.specs.Tally.{Tallied, CanRound, MayEnter, MayShut, Entered, Shut, HasDesk, rounded}
use Rattle.hub_core.specs.TallySteps.{kept_after, planned, planned_fork, planned_halt, made_round}
use Rattle.hub_core.proofs.Rounding.{round}
use Rattle.hub_core.proofs.Entering.{enter, bear}
use Rattle.hub_core.proofs.Shutting.{shut}
use Rattle.hub_core.proofs.Sole.{one_hand}

module _ {R A E : Type 0} where
  abbrev home_in : DeskSlot R A E → Option (Box (Desk R A E))
  home_in (Home box) = Some box
  home_in Away = None
  home_in (Told i k) = None

  abbrev box_in : List (ℕ × DeskSlot R A E) → Option (Box (Desk R A E))
  box_in [] = None
  box_in (x ∷ xs) = home_in x.1

  one_box : (held : List (ℕ × DeskSlot R A E)) (a b : Box (Desk R A E)) → held ≡ (0, Home a) ∷ []
      → held ≡ (0, Home b) ∷ [] → a ≡ b
  one_box held a b x y = some_inj (sym (ap box_in x) ∙ ap box_in y)

module _ {L R A E : Type 0} (d : HubMachine L R A E) (ends : E → L → Type 0) (first : Sight L) where
  abbrev V : Type 0
  V = Sight L

  abbrev S : Type 0
  S = DeskSlot R A E

  abbrev Rule : State S V → Type 0
  Rule = Tallied d ends first

  abbrev Slots : Type 0
  Slots = List (Status R A E)

  module _ (me : Me S V) (start : L) (box : Box (Desk R A E)) (hand : HasDesk d ends me.0 box.value)
      (begun : me.0.seat.start ≡ Some start) (held : me.1 ≡ (0, Home box) ∷ []) where
    -- what is told of one list of statuses is told of each that the seat knows
    told_of : (P : L → (b : Box (Desk R A E)) → Slots → Type 0) → P start box hand.slots
        → (start' : L) (box' : Box (Desk R A E)) (hand' : HasDesk d ends me.0 box'.value)
        → me.0.seat.start ≡ Some start' → me.1 ≡ (0, Home box') ∷ [] → P start' box' hand'.slots
    told_of P told start' box' hand' begun' held' =
        subst (λ (b : Box (Desk R A E)). (h : HasDesk d ends me.0 b.value) → P start' b h.slots)
        (one_box me.1 box box' held held')
        (λ h. subst (λ (z : L × Slots). P z.0 box z.1)
        (λ i. (some_inj (sym begun ∙ begun') i, one_hand d ends me.0 box.value hand h i)) told)
        hand'

    -- a load of the tally
    pub plan_enters : (homes id : ℕ) (st : Step S) (es : List ℕ) (to : Slots → Slots)
        (may : MayEnter d ends me.0 box.value.plan.deeds.items es None (λ n. Unit {0})
        (kept_after box.value me.0.mine) (kept_after box.value) to)
        → may.start ≡ start → may.slots ≡ hand.slots
        → Allows Rule homes id me 16 (λ x. x) (planned d ends st me)
    plan_enters homes id st es to may same_start same s r wide at fits =
        let got =
        enter d ends first homes id me box.value.plan.deeds.items es (kept_after box.value me.0.mine)
        (kept_after box.value) to may s r wide at fits in (
          got.0,
          got.1,
          got.2,
          got.3,
          λ start' box' hand' begun' held'. (
            told_of
                (λ a b slots. Entered d ends me.0 got.0 a slots b.value.plan.deeds.items None
                (kept_after b.value me.0.mine) (kept_after b.value) (get_or s.words 16 0))
                (subst (λ (z : L × Slots).
                Entered d ends me.0 got.0 z.0 z.1 box.value.plan.deeds.items None (kept_after box.value me.0.mine)
                (kept_after box.value) (get_or s.words 16 0))
                (λ i. (same_start i, same i)) got.4.0)
                start' box' hand' begun' held',
            got.4.1,
          ),
        )

    -- an exchange of the tally
    pub plan_forks : (homes id n : ℕ) (es : List ℕ) (to : Slots → Slots)
        (may : MayEnter d ends me.0 box.value.plan.deeds.items es (Some box.value.plan.forks) (λ i. i ≡ n)
        (kept_after box.value me.0.mine) (kept_after box.value) to)
        → may.start ≡ start → may.slots ≡ hand.slots → n < me.0.limit
        → Allows Rule homes id me 16 (λ x. either (eqb x (2 * n)) (2 * n + 2) x)
        (planned_fork d ends (step homes 16 (2 * n) (2 * n + 2) opt.none) me)
    plan_forks homes id n es to may same_start same below s r wide at fits =
        let got =
        bear d ends first homes id me box.value.plan.deeds.items es box.value.plan.forks n
        (kept_after box.value me.0.mine) (kept_after box.value) to may below s r wide at fits in (
          got.0,
          got.1,
          got.2,
          got.3,
          (
            (λ is start' box' hand' begun' held'. (
              told_of
                  (λ a b slots. Entered d ends me.0 got.0 a slots b.value.plan.deeds.items (Some b.value.plan.forks)
                  (kept_after b.value me.0.mine) (kept_after b.value) (get_or s.words 16 0))
                  (subst (λ (z : L × Slots).
                  Entered d ends me.0 got.0 z.0 z.1 box.value.plan.deeds.items (Some box.value.plan.forks)
                  (kept_after box.value me.0.mine) (kept_after box.value)
                  (get_or s.words 16 0))
                  (λ i. (same_start i, same i)) (got.4.0 is).0)
                  start' box' hand' begun' held',
              (got.4.0 is).1,
            )),
            got.4.1,
          ),
        )

    -- an addition to the tally
    pub plan_halts : (homes id : ℕ) (h : HubState) (st : Step S) (to : Slots → Slots)
        (may : MayShut d ends h me.0 box.value.plan.deeds.items (kept_after box.value me.0.mine) (kept_after box.value)
        to)
        → may.start ≡ start → may.slots ≡ hand.slots
        → Allows Rule homes id me 16 (λ x. (x + 1) % 18446744073709551616) (planned_halt d ends h st me)
    plan_halts homes id h st to may same_start same s r wide at fits =
        let got =
        shut d ends first homes id me h box.value.plan.deeds.items (kept_after box.value me.0.mine)
        (kept_after box.value) to may s r wide at fits in (
          got.0,
          got.1,
          got.2,
          got.3,
          λ start' box' hand' begun' held'.
              let told =
              told_of
              (λ a b slots. (sh : Shut d ends h me.0 got.0 a slots b.value.plan.deeds.items
              (kept_after b.value me.0.mine) (kept_after b.value))
              × (get_or s.words 16 0 ≡ 2 * length sh.slots))
              (subst (λ (z : L × Slots).
              (sh : Shut d ends h me.0 got.0 z.0 z.1 box.value.plan.deeds.items (kept_after box.value me.0.mine)
              (kept_after box.value))
              × (get_or s.words 16 0 ≡ 2 * length sh.slots))
              (λ i. (same_start i, same i)) (got.4.0, got.4.2))
              start' box' hand' begun' held' in
              (told.0, got.4.1, told.1),
        )

  -- a round, which announces its joinee and its forker
  pub told_round_made : (homes id : ℕ) (me : Me S V) (i k : ℕ) (a : A) (e : E) (c : R) (f : ℕ → L) (n : ℕ)
      → CanRound d ends me.0 i k a e c f → n < me.0.limit
      → Allows Rule homes id me 16 (λ x. either (eqb x (2 * n)) (2 * n + 2) x)
      (made_round d ends (step homes 16 (2 * n) (2 * n + 2) (opt.some (Told i k))) me)
  told_round_made homes id me i k a e c f n can below s r wide at fits =
      let got = round d ends first homes id me i k a e c f n can below s r wide at fits in (
        got.0,
        got.1,
        got.2,
        got.3,
        λ m is.
            let same : n ≡ m = omega (arith, is) in
            subst (λ j. rounded d ends i k j me (get_or s.words 16 0) (got.0, carried_after me.1 got.1)) same got.4,
      )

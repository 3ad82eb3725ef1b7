-- What the steps of a seat tell.
--   first_sight              the first seat's view, from the badge that is the key
--   took_turn, gave_turn, passed_turn   the turn is taken, given back, or given back as if there had been none
--   widened                  there is room for more numbers
--   has_desk                 the slot has the value
--   kept_after               the children that are kept once a plan is carried out
--   planned, planned_fork, planned_halt   the plan in the slot is carried out at one moment
--   made_round               the round that the step announces
use Rattle.std.specs.Prelude.{◌≡◌, ◌≢◌, ℕ, ◌*◌, Bool, true, false, List, [], ◌∷◌, length, Option, Some, None}
use Rattle.std.specs.Global.{Box}
use mathlib.Core.Option as m
use Rattle.atomic_table.specs.Table.{Me, Step}
use Rattle.hub_core.specs.declared.desk.Desk.{Desk}
use Rattle.hub_core.specs.declared.desk.DeskSlot.{DeskSlot}
use Rattle.hub_core.specs.declared.desk.DeskSlot.TheVariants.{Home, Away, Told}
use Rattle.hub_core.specs.declared.sight.Sight.{Sight}
use Rattle.hub_core.specs.HubMachine.{HubMachine}
use Rattle.hub_core.specs.declared.state.HubState.{HubState}
use Rattle.hub_core.specs.Passes.{without}
use Rattle.hub_core.specs.Views.{opens}
use Rattle.hub_core.specs.Tally.{sight, blank_sight, gives_back, lets_pass, makes_room, HasDesk, Took, Entered, Shut, rounded}

abbrev pub first_sight : {L : Type 0} → List (Sight L) → Sight L
first_sight [] = blank_sight
first_sight (v ∷ vs) = sight (opens v.seat.parts v.seat.start v.seat.group) [] [] 0

-- without the child that is kept no more, and with the one that is kept from now on
abbrev pub leaving : Option ℕ → List ℕ → List ℕ
leaving None l = l
leaving (Some i) l = without i l

abbrev pub keeping : Option ℕ → List ℕ → List ℕ
keeping None l = l
keeping (Some n) l = n ∷ l

module _ {R A E : Type 0} where
  abbrev pub kept_after : Desk R A E → List ℕ → List ℕ
  kept_after desk l = keeping desk.plan.keeps (leaving desk.plan.leaves l)

  abbrev pub has_desk : DeskSlot R A E → Bool
  has_desk (Home box) = true
  has_desk Away = false
  has_desk (Told i k) = false

  abbrev pub limit_in : DeskSlot R A E → ℕ
  limit_in (Home box) = box.value.journal.limit
  limit_in Away = 0
  limit_in (Told i k) = 0

  abbrev pub limit_held : List (ℕ × DeskSlot R A E) → ℕ
  limit_held [] = 0
  limit_held (x ∷ xs) = limit_in x.1

module _ {L R A E : Type 0} (d : HubMachine L R A E) (ends : E → L → Type 0) where
  abbrev pub Place : Type 0
  Place = Me (DeskSlot R A E) (Sight L)

  abbrev pub took_turn : Step (DeskSlot R A E) → Place → ℕ → Place → Type 0
  took_turn st me r me' =
      (r ≡ 0 → (box : Box (Desk R A E)) × Took d ends me.0 me'.0 box.value × (me'.1 ≡ (0, Home box) ∷ []))
      × (r ≢ 0 → me' ≡ me)

  abbrev pub gave_turn : Step (DeskSlot R A E) → Place → ℕ → Place → Type 0
  gave_turn st me r me' = me' ≡ (gives_back me.0, [])

  abbrev pub passed_turn : Step (DeskSlot R A E) → Place → ℕ → Place → Type 0
  passed_turn st me r me' = me' ≡ (lets_pass me.0, [])

  -- the limit is that of the value in the slot
  abbrev pub widened : Step (DeskSlot R A E) → Place → ℕ → Place → Type 0
  widened st me r me' = me' ≡ (makes_room (limit_held me.1) me.0, me.1)

  -- of the statuses that the seat knows its value to stand for; there are no two such lists
  abbrev pub planned : Step (DeskSlot R A E) → Place → ℕ → Place → Type 0
  planned st me r me' =
      (start : L) (box : Box (Desk R A E)) (hand : HasDesk d ends me.0 box.value)
      → me.0.seat.start ≡ Some start → me.1 ≡ (0, Home box) ∷ []
      → Entered d ends me.0 me'.0 start hand.slots box.value.plan.deeds.items None
      (kept_after box.value me.0.mine) (kept_after box.value) r
      × (me'.1 ≡ me.1)

  -- the last entry is a fork, where the tally is what it was expected to be
  abbrev pub planned_fork : Step (DeskSlot R A E) → Place → ℕ → Place → Type 0
  planned_fork st me r me' =
      (r ≡ st.first
      → (start : L) (box : Box (Desk R A E)) (hand : HasDesk d ends me.0 box.value)
      → me.0.seat.start ≡ Some start → me.1 ≡ (0, Home box) ∷ []
      → Entered d ends me.0 me'.0 start hand.slots box.value.plan.deeds.items (Some box.value.plan.forks)
      (kept_after box.value me.0.mine) (kept_after box.value) r
      × (me'.1 ≡ me.1))
      × (r ≢ st.first → me' ≡ me)

  abbrev pub planned_halt : HubState → Step (DeskSlot R A E) → Place → ℕ → Place → Type 0
  planned_halt h st me r me' =
      (start : L) (box : Box (Desk R A E)) (hand : HasDesk d ends me.0 box.value)
      → me.0.seat.start ≡ Some start → me.1 ≡ (0, Home box) ∷ []
      → (shut : Shut d ends h me.0 me'.0 start hand.slots box.value.plan.deeds.items (kept_after box.value me.0.mine)
      (kept_after box.value))
      × (me'.1 ≡ me.1) × (r ≡ 2 * length shut.slots)

  -- the joinee and the forker are announced
  abbrev pub told_round : m.Option (DeskSlot R A E) → ℕ → Place → ℕ → Place → Type 0
  told_round m.none n me r me' = me' ≡ me
  told_round (m.some (Home box)) n me r me' = me' ≡ me
  told_round (m.some Away) n me r me' = me' ≡ me
  told_round (m.some (Told i k)) n me r me' = rounded d ends i k n me r me'

  abbrev pub made_round : Step (DeskSlot R A E) → Place → ℕ → Place → Type 0
  made_round st me r me' = (n : ℕ) → st.first ≡ 2 * n → told_round st.said n me r me'

-- A seat that takes the turn, has it, and gives it back.
--   IsIdle, IsOpen     it has not the turn; it has the slot, whose value is away
--   IsTaken            the turn was taken, and the value lies in the slot
--   IsIn               in its turn the seat has the value in hand, and nothing of what it had before has changed
--   IsResting          it had the turn, and has it no more
use Rattle.std.specs.Prelude.{◌≡◌, ◌≢◌, ◌<◌, ◌≤◌, true, [], ◌∷◌}
use Rattle.std.specs.Global.{Box}
use Rattle.atomic_table.specs.Table.{Me}
use Rattle.hub_core.specs.HubMachine.{HubMachine}
use Rattle.hub_core.specs.declared.state.HubState.TheVariants.{All}
use Rattle.hub_core.specs.declared.sight.Sight.{Sight}
use Rattle.hub_core.specs.declared.desk.Desk.{Desk}
use Rattle.hub_core.specs.declared.desk.DeskSlot.{DeskSlot}
use Rattle.hub_core.specs.declared.desk.DeskSlot.TheVariants.{Home, Away}
use Rattle.hub_core.specs.Rule.{done, says}
use Rattle.hub_core.specs.Tally.{HasDesk, Took}

module _ {S L : Type 0} where
  abbrev pub IsIdle : Me S (Sight L) → Type 0
  IsIdle me = (me.0.seat.has ≡ 0) × (me.1 ≡ []) × (0 < me.0.seat.parts)

  -- it had the turn and has it no more
  abbrev pub IsResting : Me S (Sight L) → Me S (Sight L) → Type 0
  IsResting me me' =
      (me'.0.seat.has ≡ 0) × (me'.1 ≡ []) × (me'.0.seat.parts ≡ me.0.seat.parts)
      × (me'.0.seat.turns ≡ me'.0.seat.log ∷ me.0.seat.turns) × (me'.0.rounds ≡ me.0.rounds)
      × (me.0.limit ≤ me'.0.limit)

module _ {L R A E : Type 0} where
  abbrev pub IsOpen : Me (DeskSlot R A E) (Sight L) → Type 0
  IsOpen me = me.1 ≡ (0, Away) ∷ []

module _ {L R A E : Type 0} (d : HubMachine L R A E) (ends : E → L → Type 0) where
  abbrev pub IsTaken : Me (DeskSlot R A E) (Sight L) → Me (DeskSlot R A E) (Sight L) → Type 0
  IsTaken me me' = (box : Box (Desk R A E)) × Took d ends me.0 me'.0 box.value × (me'.1 ≡ (0, Home box) ∷ [])

  -- of the view before the turn and of now
  pub record IsIn (v w : Sight L) (desk : Desk R A E) : Type 0 where
    pub hand : HasDesk d ends w desk
    pub same :
        (w.seat.parts ≡ v.seat.parts) × (w.seat.start ≡ v.seat.start) × (w.seat.group ≡ v.seat.group)
        × (w.seat.passes ≡ v.seat.passes) × (w.seat.turns ≡ v.seat.turns) × (w.rounds ≡ v.rounds)
    pub limit : v.limit ≤ w.limit
    pub over : done desk.state hand.slots ≡ true → w.seat.saw ≡ 1
    pub said : w.seat.said ≡ says d ends hand.slots
    pub entered : w.seat.entered ≡ desk.state
    pub found : w.seat.found ≡ w.seat.log
    -- a halt that it knew of is that of the value
    pub known : v.seat.halt ≢ All → v.seat.halt ≡ desk.state

-- Threads that work at one hub.
--   IsWorkerOf   a seat of this hub and a hand for its run
--   HasWorked    and the seat knows that all is over, or that a halt was entered
use Rattle.std.specs.Prelude.{◌≡◌, ℕ, List}
use Rattle.turn_hub.specs.declared.hub.TurnHub.{TurnHub}
use Rattle.hub_core.specs.declared.revision.Revision.{Ghosts}
use Rattle.turn_hub.specs.declared.seat.HubSeat.{HubSeat}
use Rattle.turn_hub.specs.Names.{IsSeatOf, view_of, began}
use Rattle.hub_workers.specs.Work.{IsHandOf}

module _ {H L S R A E C P : Type 0} {g : Ghosts L S R A E C P} (begins : H → S → Type 0)
    (group : H → List ℕ) where
  abbrev pub IsWorkerOf : TurnHub L S R A E C P → HubSeat L S R A E C P g → H → Type 0
  IsWorkerOf hub seat hand =
      IsSeatOf hub seat × ((view_of seat).group ≡ (began hub).group)
      × IsHandOf begins group (view_of seat) hand

  abbrev pub HasWorked : TurnHub L S R A E C P → HubSeat L S R A E C P g → H → Type 0
  HasWorked hub seat hand = IsWorkerOf hub seat hand × ((view_of seat).saw ≡ 1)

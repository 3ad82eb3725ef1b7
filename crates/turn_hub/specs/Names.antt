-- How contracts name what a hub, its seats and a run keep.
--   IsSeatOf, AreSeatsOf       seats of this hub
--   view_of                    what a seat knows
--   places                     the seats of a list at their hub's table
--   began                      the first view of a hub: the number of its seats, its start and its group
--   run_start, run_group       where a run began, and what its snapshots belong to
--   run_state, run_schedule, run_forkers, run_ends   what a run tells
--   schedule_numbers, schedule_forkers, schedule_state, schedule_group   what its schedule tells
use Rattle.std.specs.Prelude.{◌≡◌, ℕ, List, map, Option}
use Rattle.atomic_table.specs.declared.shared.Seat.{Seat}
use Rattle.hub_core.specs.declared.state.HubState.{HubState}
use Rattle.hub_core.specs.declared.desk.DeskSlot.{DeskSlot}
use Rattle.turn_hub.specs.declared.closing.HubRun.{HubRun}
use Rattle.turn_hub.specs.declared.closing.order.HubSchedule.{HubSchedule}
use Rattle.turn_hub.specs.declared.hub.TurnHub.{TurnHub}
use Rattle.hub_core.specs.declared.revision.Revision.{Ghosts}
use Rattle.turn_hub.specs.declared.seat.HubSeat.{HubSeat}
use Rattle.hub_core.specs.declared.view.View.{View}
use Rattle.hub_core.specs.declared.sight.Sight.{Sight}
use Rattle.turn_hub.specs.Seats.{AreOf, first_of}

module _ {S : Type 0} where
  abbrev pub schedule_numbers : HubSchedule S → List ℕ
  schedule_numbers order = order.numbers.items

  abbrev pub schedule_forkers : HubSchedule S → List ℕ
  schedule_forkers order = order.forkers.items

  abbrev pub schedule_state : HubSchedule S → HubState
  schedule_state order = order.state

  abbrev pub schedule_group : HubSchedule S → List ℕ
  schedule_group order = (first_of order.witness.views).group

module _ {L S R A E C P : Type 0} where
  -- a hub's first view: the number of its seats, where its run began, and what its snapshots belong to
  abbrev pub began : TurnHub L S R A E C P → View S
  began hub = first_of hub.turn.shared.key.views

  module _ {g : Ghosts L S R A E C P} where
    -- where a run began, and what its snapshots belong to
    abbrev pub run_start : HubRun L S R A E C P g → Option S
    run_start run = (first_of run.witness.views).start

    abbrev pub run_group : HubRun L S R A E C P g → List ℕ
    run_group run = (first_of run.witness.views).group

    abbrev pub run_state : HubRun L S R A E C P g → HubState
    run_state run = run.state

    abbrev pub run_schedule : HubRun L S R A E C P g → List ℕ
    run_schedule run = run.schedule.items

    abbrev pub run_forkers : HubRun L S R A E C P g → List ℕ
    run_forkers run = run.forkers.items

    abbrev pub run_ends : HubRun L S R A E C P g → List (Option E)
    run_ends run = run.ends.items

    -- what a seat knows
    abbrev pub view_of : HubSeat L S R A E C P g → View S
    view_of seat = seat.place.me.0.seat

    abbrev pub IsSeatOf : TurnHub L S R A E C P → HubSeat L S R A E C P g → Type 0
    IsSeatOf hub seat = seat.place.table_id ≡ hub.turn.shared.table_id

    -- seats at their hub's table
    abbrev pub places :
        List (HubSeat L S R A E C P g) → List (Seat (DeskSlot R A E) (Sight S))
    places seats = map (λ s. s.place) seats

    abbrev pub AreSeatsOf : TurnHub L S R A E C P → List (HubSeat L S R A E C P g) → Type 0
    AreSeatsOf hub seats = AreOf hub.turn.shared.table_id (places seats)

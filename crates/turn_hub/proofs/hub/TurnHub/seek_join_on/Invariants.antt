-- Loops of TurnHub::seek_join_on: the tries so far came to nothing, and the joiner is there as at first.
use Rattle.std.proofs.Common.{◌≡◌}
use Rattle.hub_core.specs.Seats.{HasJoin}
use Rattle.turn_hub.specs.Joinings.{IsBefore}
use Rattle.turn_hub.proofs.hub.TurnHub.seek_join_on.Given as goal

abbrev pub invariant-loop : goal.invariant-loop
invariant-loop g l =
    (l.seat.place.table_id ≡ l.fn.seat.place.table_id)
    × IsBefore g.L.Revision.machine g.L.Revision.ends l.fn.seat.place.me.0 l.seat.place.me.0
    × HasJoin g.L.Revision.machine g.L.Revision.ends l.seat.place.me.0.seat l.of l.at
    × (l.seat.place.me.0.seat.group ≡ l.fn.seat.place.me.0.seat.group) × (l.at ≡ l.fn.at)

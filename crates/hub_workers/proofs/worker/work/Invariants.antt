-- Loops of work: seat and hand are still the hub's, and where all was handed in before, all is so now.
use Rattle.std.proofs.Common.{◌≡◌}
use Rattle.hub_core.specs.Seats.{IsSameSeat}
use Rattle.hub_workers.specs.Handed.{HasHandedIn}
use Rattle.hub_workers.specs.Work.{IsHandOf}
use Rattle.hub_workers.proofs.worker.work.Given as goal

abbrev pub invariant-loop : goal.invariant-loop
invariant-loop g l =
    (l.seat.place.table_id ≡ l.initial.seat.place.table_id)
    × IsSameSeat l.initial.seat.place.me.0.seat l.seat.place.me.0.seat
    × IsHandOf g.L.Legs.begins g.L.Legs.hand_group l.seat.place.me.0.seat l.hand
    × (HasHandedIn l.initial.seat.place.me.0.seat → HasHandedIn l.seat.place.me.0.seat)

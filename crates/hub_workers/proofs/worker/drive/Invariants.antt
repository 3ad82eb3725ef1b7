-- Loops of drive: seat and hand are still the hub's, and what comes next is the seat's, alone if it was.
use Rattle.std.proofs.Common.{◌≡◌}
use Rattle.hub_core.specs.Seats.{IsSameSeat}
use Rattle.hub_workers.specs.Handed.{OnlyNext}
use Rattle.hub_workers.specs.Work.{IsHandOf, HasNext}
use Rattle.hub_workers.proofs.worker.drive.Given as goal

abbrev pub invariant-loop : goal.invariant-loop
invariant-loop g l =
    (l.seat.place.table_id ≡ l.initial.seat.place.table_id)
    × IsSameSeat l.initial.seat.place.me.0.seat l.seat.place.me.0.seat
    × IsHandOf g.L.Legs.begins g.L.Legs.hand_group l.seat.place.me.0.seat l.hand
    × HasNext g.L.Revision.machine g.L.Revision.ends g.L.Revision.claimed g.L.Revision.stopped
    g.L.Revision.claimed_group g.L.Revision.stopped_group l.seat.place.me.0.seat l.next
    × (OnlyNext l.initial.seat.place.me.0.seat l.initial.next → OnlyNext l.seat.place.me.0.seat l.next)

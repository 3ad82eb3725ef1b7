-- Loops of TurnHub::find_round: the tries so far have changed nothing in the place of the seat.
use Rattle.std.proofs.Common.{◌≡◌}
use Rattle.turn_hub.proofs.hub.TurnHub.find_round.Given as goal

abbrev pub invariant-loop : goal.invariant-loop
invariant-loop g l = (l.place.table_id ≡ l.initial.place.table_id) × (l.place.me ≡ l.initial.place.me)

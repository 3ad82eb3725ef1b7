-- Loops of TurnHub::keep_in: the tries so far missed, and the value is in hand as at first.
use Rattle.std.proofs.Common.{◌≡◌, ◌≤◌}
use Rattle.hub_core.specs.declared.sight.Sight.{Sight}
use Rattle.hub_core.specs.declared.state.HubState.TheVariants.{All}
use Rattle.hub_core.specs.Tally.{HasDesk}
use Rattle.turn_hub.specs.Turns.{IsOpen, IsIn}
use Rattle.turn_hub.proofs.hub.TurnHub.keep_in.Given as goal

abbrev pub invariant-loop : goal.invariant-loop
invariant-loop g l =
    (l.place.table_id ≡ l.fn.place.table_id) × IsOpen l.place.me
    × HasDesk g.L.Revision.machine g.L.Revision.ends l.place.me.0 l.desk.value × (l.desk.value.state ≡ All)
    × (l.place.me.0.mine ≡ l.fn.place.me.0.mine) × (l.place.me.0.seat ≡ l.fn.place.me.0.seat)
    × (l.place.me.0.rounds ≡ l.fn.place.me.0.rounds) × (l.fn.place.me.0.limit ≤ l.place.me.0.limit)
    × ((v : Sight g.row.L-State.Denot)
    → IsIn g.L.Revision.machine g.L.Revision.ends v l.fn.place.me.0 l.fn.desk.value
    → IsIn g.L.Revision.machine g.L.Revision.ends v l.place.me.0 l.desk.value)

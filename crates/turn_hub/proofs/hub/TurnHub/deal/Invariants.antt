-- Loops of TurnHub::deal: the seats so far are new ones of the hub, and the dealing one has the parts left.
use Rattle.std.proofs.Common.{◌≡◌, ◌+◌, ◌≤◌, [], length, map, vec_capacity}
use Rattle.hub_core.specs.declared.state.HubState.TheVariants.{All}
use Rattle.turn_hub.specs.Seats.{AreOf, AreNew}
use Rattle.turn_hub.proofs.hub.TurnHub.deal.Given as goal

abbrev pub invariant-loop : goal.invariant-loop
invariant-loop g l =
    (l.one.table_id ≡ l.self.turn.shared.table_id) × (l.one.me.0.seat.has ≡ 0) × (l.one.me.1 ≡ [])
    × (l.one.me.0.seat.parts + l.counter ≡ l.seats + 1)
    × (length l.list.items + 1 ≡ l.counter) × (l.seats ≤ vec_capacity l.list)
    × AreOf l.self.turn.shared.table_id (map (λ s. s.place) l.list.items)
    × AreNew l.fn.place.me.0.seat.start l.fn.place.me.0.seat.group (map (λ s. s.place) l.list.items)
    × (l.one.me.0.seat.start ≡ l.fn.place.me.0.seat.start) × (l.one.me.0.seat.group ≡ l.fn.place.me.0.seat.group)
    × (l.one.me.0.seat.passes ≡ []) × (l.one.me.0.seat.saw ≡ 0) × (l.one.me.0.seat.halt ≡ All)
    × (l.one.me.0.rounds ≡ []) × (l.one.me.0.mine ≡ [])

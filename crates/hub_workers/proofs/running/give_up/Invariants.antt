-- Loops of give_up: what is left has the hand's group, and that group stays.
use Rattle.std.proofs.Common.{◌≡◌}
use Rattle.std.specs.Vec.Iter.{into_iter_items, into_iter_len}
use Rattle.turn_hub.specs.Closing.{AreKeptOf}
use Rattle.hub_workers.proofs.running.give_up.Given as goal

abbrev pub invariant-loop-one : goal.invariant-loop-one
invariant-loop-one g l =
    AreKeptOf g.L.Revision.machine g.L.Revision.ends (g.L.Legs.hand_group l.hand) (into_iter_items l.rest)
    × (g.L.Legs.hand_group l.hand ≡ g.L.Legs.hand_group l.initial.hand)

abbrev pub decreases-loop-one : goal.decreases-loop-one
decreases-loop-one g l = into_iter_len l.rest

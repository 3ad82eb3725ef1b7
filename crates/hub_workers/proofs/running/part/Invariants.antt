-- Loops of part: workers left have worked, seats and hands taken are of the hub, and there is room for all.
use Rattle.std.proofs.Common.{◌≡◌, ◌+◌, ◌≤◌, length, All, vec_capacity}
use Rattle.turn_hub.specs.Names.{IsSeatOf, view_of, began}
use Rattle.hub_workers.specs.Threads.{HasWorked}
use Rattle.hub_workers.proofs.running.part.Given as goal

abbrev pub invariant-loop : goal.invariant-loop
invariant-loop g l =
    All (λ w. HasWorked g.L.Legs.begins g.L.Legs.hand_group l.hub w.seat w.hand) l.rest.items
    × All (λ s. IsSeatOf l.hub s × ((view_of s).saw ≡ 1)) l.seats.items
    × All (λ h. g.L.Legs.hand_group h ≡ (began l.hub).group) l.hands.items
    × (length l.seats.items ≡ l.counter) × (length l.hands.items ≡ l.counter)
    × (length l.rest.items + l.counter ≡ l.count) × (l.count ≡ length l.fn.workers.items)
    × (l.count ≤ vec_capacity l.seats) × (l.count ≤ vec_capacity l.hands)
    × (vec_capacity l.initial.hands ≤ vec_capacity l.hands)

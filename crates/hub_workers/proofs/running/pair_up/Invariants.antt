-- Loops of pair_up: seats and hands left are of the hub and as many; the workers made are of it, and fit.
use Rattle.std.proofs.Common.{◌≡◌, ◌+◌, ◌≤◌, length, All, vec_capacity}
use Rattle.hub_workers.specs.Threads.{IsWorkerOf}
use Rattle.hub_workers.specs.Running.{IsSeatFor, IsHandFor}
use Rattle.hub_workers.proofs.running.pair_up.Given as goal

abbrev pub invariant-loop : goal.invariant-loop
invariant-loop g l =
    All (λ s. IsSeatFor l.hub s) l.seats.items
    × All (λ h. IsHandFor g.L.Legs.begins g.L.Legs.hand_group l.hub h) l.hands.items
    × All (λ w. IsWorkerOf g.L.Legs.begins g.L.Legs.hand_group l.hub w.seat w.hand) l.workers.items
    × (length l.seats.items ≡ length l.hands.items)
    × (length l.workers.items ≡ l.counter) × (length l.hands.items + l.counter ≡ l.count)
    × (l.count ≤ vec_capacity l.workers)
    × (vec_capacity l.seats ≡ vec_capacity l.initial.seats)
    × (vec_capacity l.hands ≡ vec_capacity l.initial.hands)

-- Loops of gather_all: what was taken in so far and what the seats left have is together what all have.
use Rattle.std.proofs.Common.{◌≡◌, ◌+◌, ◌<◌, ◌≤◌, ℕ, List, [], length, map, vec_len, vec_capacity}
use Rattle.hub_core.specs.Passes.{named, AreStartsOf}
use Rattle.hub_core.specs.Views.{either_saw, either_halt}
use Rattle.hub_core.specs.Woven.{triples}
use Rattle.hub_core.specs.Ordered.{all_rounds}
use Rattle.turn_hub.specs.Seats.{AreOf, AreBehind}
use Rattle.turn_hub.specs.Closing.{saw_of, halt_known, held_by}
use Rattle.turn_hub.proofs.closing.gather_all.Given as goal

abbrev pub invariant-loop : goal.invariant-loop
invariant-loop g l =
    (l.all.table_id ≡ l.turn.shared.table_id) × (l.all.me.0.seat.has ≡ 0) × (l.all.me.1 ≡ [])
    × (0 < l.all.me.0.seat.parts)
    × (l.all.me.0.seat.parts + length l.rest.items ≡ length l.fn.seats.items)
    × (length l.rest.items + l.counter ≡ l.count)
    × AreOf l.turn.shared.table_id (map (λ s. s.place) l.rest.items)
    × (saw_of (map (λ s. s.place) l.fn.seats.items) ≡ 1
    → either_saw l.all.me.0.seat.saw (saw_of (map (λ s. s.place) l.rest.items)) ≡ 1)
    × (either_halt l.all.me.0.seat.halt (halt_known (map (λ s. s.place) l.rest.items))
    ≡ halt_known (map (λ s. s.place) l.fn.seats.items))
    × ((log : List ℕ) → AreStartsOf log l.all.me.0.seat.turns → AreBehind log (map (λ s. s.place) l.rest.items)
    → AreBehind log (map (λ s. s.place) l.fn.seats.items))
    × ((n : ℕ)
    → named n l.all.me.0.seat.passes + held_by n (map (λ s. s.place) l.rest.items)
    ≡ held_by n (map (λ s. s.place) l.fn.seats.items))
    × (all_rounds (map (λ l. triples l.items) l.lists.items) ≡ l.all.me.0.rounds)
    × (vec_len l.lists + length l.rest.items ≡ length l.fn.seats.items)
    × (length l.fn.seats.items ≤ vec_capacity l.lists)

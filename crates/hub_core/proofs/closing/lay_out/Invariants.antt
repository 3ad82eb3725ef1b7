-- Loops of lay_out: so many numbers as counted, and none has a round.
use Rattle.std.proofs.Common.{◌≡◌, ◌≤◌, ℕ, length, None, vec_len, vec_capacity}
use Rattle.hub_core.specs.Woven.{rounds_at}
use Rattle.hub_core.proofs.closing.lay_out.Given as goal

abbrev pub invariant-loop : goal.invariant-loop
invariant-loop l =
    (length l.rounds.items ≡ l.counter) × (vec_len l.rounds ≡ l.counter)
    × (vec_capacity l.initial.rounds ≤ vec_capacity l.rounds)
    × ((n : ℕ) → rounds_at l.rounds.items n ≡ None)

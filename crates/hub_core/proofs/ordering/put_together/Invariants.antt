-- Loops of put_together: what stands so far with what the numbers that are left come to is all.
use Rattle.std.proofs.Common.{◌≡◌, ◌≤◌, ◌+◌, ◌-◌, ◌*◌, ◌++◌, ◌∷◌, length, vec_len, vec_capacity}
use Rattle.hub_core.specs.Tally.{pairs}
use Rattle.hub_core.specs.Rounds.{weave, weave_forkers}
use Rattle.hub_core.specs.Woven.{pairs_from, rounds_at}
use Rattle.hub_core.proofs.ordering.put_together.Given as goal

abbrev pub invariant-loop-number : goal.invariant-loop-number
invariant-loop-number l =
    (l.schedule.items ++ weave (length l.rounds - l.number) l.number (pairs_from l.at l.entries) (rounds_at l.rounds)
    ≡ weave (length l.rounds - 1) 1 (pairs l.entries) (rounds_at l.rounds))
    × (l.forkers.items
    ++ weave_forkers (length l.rounds - l.number) l.number (pairs_from l.at l.entries) (rounds_at l.rounds)
    ≡ 0 ∷ weave_forkers (length l.rounds - 1) 1 (pairs l.entries) (rounds_at l.rounds))
    × (l.at ≤ length l.entries) × (1 ≤ l.number) × (l.number ≤ length l.rounds)
    × (vec_len l.schedule + length l.entries + 3 * length l.rounds ≤ vec_capacity l.schedule + l.at + 3 * l.number)
    × (vec_len l.forkers ≡ l.number) × (length l.rounds ≤ vec_capacity l.forkers)

-- Loops of lengthen: each number has the list that it had, and there are as many lists as counted.
use Rattle.std.proofs.Common.{◌≡◌, ◌≤◌, ℕ, length}
use Rattle.hub_core.specs.Chains.{chain_at}
use Rattle.hub_core.proofs.queueing.lengthen.Given as goal

abbrev pub invariant-loop : goal.invariant-loop
invariant-loop l =
    ((m : ℕ) → chain_at l.waiters.items m ≡ chain_at l.initial.waiters.items m)
    × (length l.waiters.items ≡ l.counter) × (length l.initial.waiters.items ≤ l.counter)

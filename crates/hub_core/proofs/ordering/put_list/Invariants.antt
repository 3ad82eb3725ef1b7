-- Loops of put_list: what stands by number with the rounds that are left behind it is what stands there with all.
use Rattle.std.proofs.Common.{◌≡◌, ℕ, length}
use Rattle.std.proofs.Math.ListN.{drop}
use Rattle.hub_core.specs.Woven.{rounds_at, triples}
use Rattle.hub_core.specs.Ordered.{AreBelow, placed}
use Rattle.hub_core.proofs.ordering.put_list.Given as goal

abbrev pub invariant-loop-at : goal.invariant-loop-at
invariant-loop-at l =
    (length l.rounds.items ≡ length l.initial.rounds.items)
    × AreBelow (length l.initial.rounds.items) (triples (drop l.at l.list))
    × ((n : ℕ)
    → placed (triples (drop l.at l.list)) (rounds_at l.rounds.items) n
    ≡ placed (triples l.list) (rounds_at l.initial.rounds.items) n)

-- Loops of put_lists: what stands by number with the lists that are left behind it is what stands there with all.
use Rattle.std.proofs.Common.{◌≡◌, ℕ, length, map}
use Rattle.std.proofs.Math.ListN.{drop}
use Rattle.hub_core.specs.Woven.{rounds_at, triples}
use Rattle.hub_core.specs.Ordered.{all_rounds, AreBelow, placed}
use Rattle.hub_core.proofs.ordering.put_lists.Given as goal

abbrev pub invariant-loop-at : goal.invariant-loop-at
invariant-loop-at l =
    (length l.rounds.items ≡ length l.initial.rounds.items)
    × AreBelow (length l.initial.rounds.items) (all_rounds (map (λ l. triples l.items) (drop l.at l.lists)))
    × ((n : ℕ)
    → placed (all_rounds (map (λ l. triples l.items) (drop l.at l.lists))) (rounds_at l.rounds.items) n
    ≡ placed (all_rounds (map (λ l. triples l.items) l.lists)) (rounds_at l.initial.rounds.items) n)

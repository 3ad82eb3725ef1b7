-- Loops of give_hands: there is a hand for each of the merges taken, and those left fit the setting.
use Rattle.std.proofs.Common.{◌≡◌, ◌+◌, ◌≤◌, length, All, vec_capacity}
use Rattle.segment_store.specs.Names.{IsOf, IsSameHold}
use Rattle.rev_workers.specs.Hands.{AreMergesFor, IsHandFor}
use Rattle.rev_workers.proofs.hands.give_hands.Given as goal

abbrev pub invariant-loop : goal.invariant-loop
invariant-loop g l =
    All (AreMergesFor g.M.MergeBy.size g.M.MergeBy.merges l.fn.setting) l.rest.items
    × All (IsHandFor l.fn.setting l.fn.fuel l.fn.store) l.hands.items
    × IsOf l.fn.store l.hold × IsSameHold l.initial.hold l.hold
    × (length l.rest.items + l.counter ≡ l.count) × (length l.hands.items ≡ l.counter)
    × (l.count ≤ vec_capacity l.hands)

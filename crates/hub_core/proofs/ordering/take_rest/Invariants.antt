-- Loops of take_rest: what stands in the schedule with the entries that are left is all.
use Rattle.std.proofs.Common.{◌≡◌, ◌≤◌, ◌+◌, ◌++◌, length, vec_len, vec_capacity}
use Rattle.hub_core.specs.Rounds.{entries_of}
use Rattle.hub_core.specs.Woven.{pairs_from}
use Rattle.hub_core.proofs.ordering.take_rest.Given as goal

abbrev pub invariant-loop-at : goal.invariant-loop-at
invariant-loop-at l =
    (l.schedule.items ++ entries_of (pairs_from l.at l.entries)
    ≡ l.initial.schedule.items ++ entries_of (pairs_from l.from l.entries))
    × (l.from ≤ l.at) × (l.at ≤ length l.entries)
    × (vec_len l.schedule + l.from ≡ vec_len l.initial.schedule + l.at)
    × (vec_capacity l.initial.schedule ≤ vec_capacity l.schedule)

-- Loops of take_entries: what stands in the schedule with the entries that are left is all, and the last is the last.
use Rattle.std.proofs.Common.{◌≡◌, ◌≤◌, ◌+◌, ◌++◌, length, vec_len, vec_capacity}
use Rattle.hub_core.specs.Rounds.{first_at, behind_at, last_or}
use Rattle.hub_core.specs.Woven.{pairs_from}
use Rattle.hub_core.proofs.closing.take_entries.Given as goal

abbrev pub invariant-loop-at : goal.invariant-loop-at
invariant-loop-at l =
    (l.schedule.items ++ first_at l.count (pairs_from l.at l.entries)
    ≡ l.initial.schedule.items ++ first_at l.count (pairs_from l.from l.entries))
    × (behind_at l.count (pairs_from l.at l.entries) ≡ behind_at l.count (pairs_from l.from l.entries))
    × (last_or l.last (first_at l.count (pairs_from l.at l.entries))
    ≡ last_or 0 (first_at l.count (pairs_from l.from l.entries)))
    × (l.from ≤ l.at) × (l.at ≤ length l.entries)
    × (vec_len l.schedule + l.from ≡ vec_len l.initial.schedule + l.at)
    × (vec_capacity l.initial.schedule ≤ vec_capacity l.schedule)

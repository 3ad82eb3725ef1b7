-- Loops of owned_ends: whatever stands for the ends left, behind the owned ones so far it stands with them for all.
use Rattle.std.proofs.Common.{◌≡◌, List, ◌++◌, length, Option}
use Rattle.std.specs.Global.{Box}
use Rattle.std.specs.Vec.Iter.{into_iter_items, into_iter_len}
use Rattle.version_map.specs.declared.end.EndValue.{EndValue}
use Rattle.thread_runs.specs.Ends.{AreOwned}
use Rattle.thread_runs.proofs.ends.owned_ends.Given as goal

-- with whatever stands for the rest
abbrev pub invariant-loop-end : goal.invariant-loop-end
invariant-loop-end l =
    (into_iter_len l.rest ≡ length (into_iter_items l.rest))
    × ((vs : List (Option (Box EndValue))) → AreOwned (into_iter_items l.rest) vs
    → AreOwned l.fn.ends.items (l.owned.items ++ vs))

abbrev pub decreases-loop-end : goal.decreases-loop-end
decreases-loop-end l = into_iter_len l.rest

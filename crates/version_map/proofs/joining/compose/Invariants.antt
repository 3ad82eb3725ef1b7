-- Loops of compose: the words so far are known, and the composition of the other entries stands behind them.
use Rattle.std.proofs.Common.{◌≡◌, ◌-◌, ◌≤◌, length, take, drop}
use Rattle.version_map.specs.Composing.{composed, entries}
use Rattle.version_map.specs.Parts.{before}
use Rattle.version_map.proofs.joining.compose.Given as goal

-- the words so far are known, and the composition of the other entries stands behind them
abbrev pub invariant-loop-at : goal.invariant-loop-at
invariant-loop-at g l = (g.M.MergeBy.size l.merges ≡ g.M.MergeBy.size l.initial.merges)
    × (g.M.MergeBy.merges l.merges ≡ g.M.MergeBy.merges l.initial.merges)
    × (length l.values ≡ length l.written)
    × (l.at ≤ length l.written)
    × (composed (g.M.MergeBy.merges l.initial.merges) l.mains (entries l.written)
    ≡ before (take l.at l.values)
    (composed (g.M.MergeBy.merges l.initial.merges) (drop l.at l.mains) (entries (drop l.at l.written))))

abbrev pub decreases-loop-at : goal.decreases-loop-at
decreases-loop-at g l = length l.written - l.at

-- Loops of MergeBy::merge_eight: the words so far are known, and the row of the others stands behind them.
use Rattle.std.proofs.Common.{◌≡◌, length, take}
use Rattle.version_map.specs.Eights.{merged_row}
use Rattle.version_map.proofs.RowSteps.{behind, row_from}
use Rattle.version_map.proofs.joining.MergeBy.merge_eight.Given as goal

-- the words so far are known, and the row of the others stands behind them
abbrev pub invariant-loop-k : goal.invariant-loop-k
invariant-loop-k g l = (g.Self.MergeBy.size l.self ≡ g.Self.MergeBy.size l.initial.self)
    × (g.Self.MergeBy.merges l.self ≡ g.Self.MergeBy.merges l.initial.self)
    × (g.Self.MergeBy.row l.self ≡ g.Self.MergeBy.row l.initial.self)
    × (length l.values ≡ 8)
    × (merged_row (g.Self.MergeBy.merges l.initial.self) l.first l.main l.join l.root
    ≡ behind (take l.k l.values) (row_from (g.Self.MergeBy.merges l.initial.self) l.first l.main l.join l.root l.k))

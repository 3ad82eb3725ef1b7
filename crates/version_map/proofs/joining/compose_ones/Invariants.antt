-- Loops of compose_ones: the words so far are put, and the merges are as at first.
use Rattle.std.proofs.Common.{◌≡◌, length}
use Rattle.version_map.specs.Parts.{HasPut}
use Rattle.version_map.proofs.joining.compose_ones.Given as goal

abbrev pub invariant-loop-k : goal.invariant-loop-k
invariant-loop-k g l = (g.M.MergeBy.size l.merges ≡ g.M.MergeBy.size l.initial.merges)
    × (g.M.MergeBy.merges l.merges ≡ g.M.MergeBy.merges l.initial.merges)
    × (length l.values ≡ length l.initial.values)
    × HasPut (g.M.MergeBy.merges l.initial.merges) l.mains l.written l.at l.k l.initial.values l.values

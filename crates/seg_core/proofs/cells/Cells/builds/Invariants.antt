-- Loops of Cells::builds: no segment so far is built by the holder.
use Rattle.std.proofs.Common.{◌≡◌, ℕ, ◌<◌}
use mathlib.Core.Option.{some}
use lib.ListN.{get_elem?}
use Rattle.seg_core.specs.declared.segment.Segment.{Segment}
use Rattle.seg_core.specs.Shape.{seg_of, IsBuiltBy}
use Rattle.seg_core.proofs.cells.Cells.builds.Given as goal

abbrev pub invariant-loop-at : goal.invariant-loop-at
invariant-loop-at l = (k : ℕ) → k < l.at → (g : Segment)
    → get_elem? l.fn.self.segments.items k ≡ some g → ¬ (IsBuiltBy (seg_of g) l.fn.holder)

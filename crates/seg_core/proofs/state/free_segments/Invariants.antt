-- Loops of free_segments: there are as many free segments as turns, all with the same locations.
use Rattle.std.proofs.Common.{◌≡◌, ℕ, map, replicate, vec_len}
use mathlib.Core.Option.{some}
use lib.ListN.{get_elem?}
use Rattle.version_map.specs.Deltas as deltas
use Rattle.seg_core.specs.declared.segment.Segment.{Segment}
use Rattle.seg_core.specs.Core.{free}
use Rattle.seg_core.specs.Shape.{seg_of}
use Rattle.seg_core.proofs.state.free_segments.Given as goal

abbrev pub invariant-loop-made : goal.invariant-loop-made
invariant-loop-made l = (map seg_of l.segments.items ≡ replicate l.made free)
    × (vec_len l.segments ≡ l.made)
    × ((i : ℕ) (g : Segment) → get_elem? l.segments.items i ≡ some g
    → deltas.locations g.delta ≡ l.fn.locations)

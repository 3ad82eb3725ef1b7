-- Loops of note_lanes: each number so far has 64 bits.
use Rattle.std.proofs.Common.{◌<◌, ℕ, pos, w64}
use Rattle.std.specs.Prelude.{slice_index_or, FitsSigned}
use Rattle.merge_kernels.proofs.lanes.note_lanes.Given as goal

abbrev pub invariant-loop-k : goal.invariant-loop-k
invariant-loop-k l = (i : ℕ) → i < l.k → FitsSigned w64 (slice_index_or l.xs i (pos 0))

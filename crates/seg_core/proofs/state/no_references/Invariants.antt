-- Loops of no_references: there are as many holders that refer to nothing as turns.
use Rattle.std.proofs.Common.{◌≡◌, ℕ, List, [], map, replicate, vec_len}
use Rattle.seg_core.specs.Shape.{list_of}
use Rattle.seg_core.proofs.state.no_references.Given as goal

abbrev pub invariant-loop-made : goal.invariant-loop-made
invariant-loop-made l = (map list_of l.holders.items ≡ replicate {A = List ℕ} l.made [])
    × (vec_len l.holders ≡ l.made)

-- Loops of RowKernel::put_eights: the eights so far are put, by all merges that have the values of the definition.
use Rattle.std.proofs.Common.{◌≡◌, ◌*◌, ℕ, drop, length}
use Rattle.version_map.specs.Composing.{Merges}
use Rattle.version_map.specs.Following.{Follow}
use Rattle.version_map.specs.Parts.{HasPut}
use Rattle.merge_kernels.specs.Rows.{AreValues}
use Rattle.merge_kernels.specs.Terms.{definition}
use Rattle.merge_kernels.proofs.kernel.RowKernel.put_eights.Given as goal

abbrev pub invariant-loop-eight : goal.invariant-loop-eight
invariant-loop-eight g l = (length l.values ≡ length l.initial.values)
    × ((merges : Merges ℕ) (first : ℕ) → Follow (drop l.at l.written) first (8 * l.eights)
    → AreValues (definition l.self.def) merges first (8 * l.eights)
    → HasPut merges l.mains l.written l.at (8 * l.eight) l.initial.values l.values)

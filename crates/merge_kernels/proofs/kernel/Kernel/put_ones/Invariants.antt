-- Loops of Kernel::put_ones: the locations so far are put, by all merges that have the values of the definition.
use Rattle.std.proofs.Common.{◌≡◌, ℕ, drop, length}
use Rattle.version_map.specs.Composing.{Merges}
use Rattle.version_map.specs.Following.{Follow}
use Rattle.version_map.specs.Parts.{HasPut}
use Rattle.merge_kernels.specs.Rows.{AreValues}
use Rattle.merge_kernels.specs.Terms.{definition}
use Rattle.merge_kernels.proofs.kernel.Kernel.put_ones.Given as goal

abbrev pub invariant-loop-k : goal.invariant-loop-k
invariant-loop-k g l = (length l.values ≡ length l.initial.values)
    × ((merges : Merges ℕ) (first : ℕ) → Follow (drop l.at l.written) first l.many
    → AreValues (definition l.self.def) merges first l.many
    → HasPut merges l.mains l.written l.at l.k l.initial.values l.values)

-- Loops of find: no kernel so far has this definition.
use Rattle.std.proofs.Common.{◌≢◌, ◌<◌, ℕ, Some, map, slice_get}
use Rattle.merge_kernels.specs.Terms.{definition}
use Rattle.merge_kernels.proofs.finding.find.Given as goal

-- no earlier kernel has this definition
abbrev pub invariant-loop-n : goal.invariant-loop-n
invariant-loop-n g l =
    (i : ℕ) → i < l.n → slice_get (map (λ k. definition k.def) l.kernels) i ≢ Some (definition l.def)

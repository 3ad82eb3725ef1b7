-- Loops of is_level: the locations so far have what the first of the row has.
use Rattle.std.proofs.Common.{◌≡◌, ◌<◌, ◌+◌, ℕ}
use Rattle.merge_kernels.specs.Plans.{choice_at}
use Rattle.merge_kernels.proofs.plan.is_level.Given as goal

abbrev pub invariant-loop-k : goal.invariant-loop-k
invariant-loop-k l = (k : ℕ) → k < l.k → choice_at l.choices (l.first + k) ≡ choice_at l.choices l.first

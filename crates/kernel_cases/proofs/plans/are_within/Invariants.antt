-- Loops of are_within: each choice before this one is a place of the kernels, where there is one.
use Rattle.std.proofs.Common.{◌≡◌, ◌<◌, ℕ, Some, length}
use Rattle.merge_kernels.specs.Plans.{choice_at}
use Rattle.kernel_cases.proofs.plans.are_within.Given as goal

-- the choices so far are places of the kernels
abbrev pub invariant-loop-at : goal.invariant-loop-at
invariant-loop-at g l = (i n : ℕ) → i < l.at → choice_at l.choices i ≡ Some n → n < length l.kernels

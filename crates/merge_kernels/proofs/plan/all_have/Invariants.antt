-- Loops of all_have: whether all are this choice is whether those left are.
use Rattle.std.proofs.Common.{◌≡◌, drop}
use Rattle.merge_kernels.specs.Plans.{have}
use Rattle.merge_kernels.proofs.plan.all_have.Given as goal

-- whether all are, is whether the others are
abbrev pub invariant-loop-at : goal.invariant-loop-at
invariant-loop-at l = have l.n l.choices ≡ have l.n (drop l.at l.choices)

-- Loops of eight_choices: the choices that are copied so far are the first of those from this place on.
use Rattle.std.proofs.Common.{◌≡◌, length, take, drop}
use Rattle.merge_kernels.proofs.plan.eight_choices.Given as goal

abbrev pub invariant-loop-k : goal.invariant-loop-k
invariant-loop-k l = (length l.eight ≡ 8) × (take l.k l.eight ≡ take l.k (drop l.at l.choices))

-- Loops of mains_of: there is one word for each location so far.
use Rattle.std.proofs.Common.{◌≡◌, length}
use Rattle.kernel_cases.proofs.plans.mains_of.Given as goal

abbrev pub invariant-loop-location : goal.invariant-loop-location
invariant-loop-location l = length l.list.items ≡ l.location

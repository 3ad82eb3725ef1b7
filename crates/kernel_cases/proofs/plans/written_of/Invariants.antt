-- Loops of written_of: the locations are numbered from zero on, one for each turn so far.
use Rattle.std.proofs.Common.{◌≡◌, length}
use Rattle.kernel_cases.specs.Written.{AreNumbered}
use Rattle.kernel_cases.proofs.plans.written_of.Given as goal

abbrev pub invariant-loop-location : goal.invariant-loop-location
invariant-loop-location l = AreNumbered l.list.items × (length l.list.items ≡ l.location)

-- Loops of no_starts: there are as many that are none as turns were taken.
use Rattle.std.proofs.Common.{◌≡◌, None, replicate}
use Rattle.rev_audit.proofs.starts.no_starts.Given as goal

abbrev pub invariant-loop-k : goal.invariant-loop-k
invariant-loop-k l = l.starts.items ≡ replicate l._k None

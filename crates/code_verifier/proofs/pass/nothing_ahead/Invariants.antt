-- Loops of nothing_ahead: there is one empty mark for each place so far.
use Rattle.std.proofs.Common.{◌≡◌, replicate, None}
use Rattle.code_verifier.proofs.pass.nothing_ahead.Given as goal

abbrev pub invariant-loop-i : goal.invariant-loop-i
invariant-loop-i l = l.ahead.items ≡ replicate l.i None

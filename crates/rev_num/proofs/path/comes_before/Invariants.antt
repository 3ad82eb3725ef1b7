-- Loops of comes_before: one list comes before the other exactly where what is left of it comes before what is left.
use Rattle.std.proofs.Common.{◌≡◌, drop}
use Rattle.rev_num.specs.Path.{before}
use Rattle.rev_num.proofs.path.comes_before.Given as goal

abbrev pub invariant-loop-i : goal.invariant-loop-i
invariant-loop-i l = before l.q l.r ≡ before (drop l.i l.q) (drop l.i l.r)

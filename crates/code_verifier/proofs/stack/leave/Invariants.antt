-- Loops of leave: the shape reached is the first without as many kinds from the top as there were turns.
use Rattle.std.proofs.Common.{◌≡◌, ◌<◌, drop, length}
use Rattle.code_verifier.specs.ShapesByNumber.{shape_at}
use Rattle.code_verifier.proofs.stack.leave.Given as goal

abbrev pub invariant-loop-i : goal.invariant-loop-i
invariant-loop-i l = record {
  within : l.rest < length l.shapes;
  shape : shape_at l.shapes l.rest ≡ drop l.i (shape_at l.shapes l.initial.rest);
}

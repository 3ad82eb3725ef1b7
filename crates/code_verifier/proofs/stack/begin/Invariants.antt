-- Loops of begin: whether the stack begins with all kinds is whether the rest begins with the kinds left.
use Rattle.std.proofs.Common.{◌≡◌, ◌<◌, drop, length}
use Rattle.code_rules.specs.Shapes.{begins}
use Rattle.code_verifier.specs.ShapesByNumber.{shape_at}
use Rattle.code_verifier.proofs.stack.begin.Given as goal

abbrev pub invariant-loop-kind : goal.invariant-loop-kind
invariant-loop-kind l = record {
  within : l.rest < length l.shapes;
  same :
      begins l.kinds (shape_at l.shapes l.initial.rest) ≡ begins (drop l.kind-index l.kinds) (shape_at l.shapes l.rest);
}

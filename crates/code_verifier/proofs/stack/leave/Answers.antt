-- Answers of leave: the shape below the one reached has one kind more left out.
use Rattle.std.proofs.Common.{◌∙◌, ap}
use Rattle.code_verifier.specs.ShapesByNumber.{rest, shape_at}
use Rattle.code_verifier.proofs.Stacks.{drop_rest}
use Rattle.code_verifier.proofs.stack.leave.Goals as goal

pub loop-i-preserved : goal.loop-i-preserved
loop-i-preserved c = record {
  within = c.rest-rest.ensures.within;
  shape = c.rest-rest.ensures.shape ∙ ap rest c.loop-i.invariant.shape
      ∙ drop_rest c.loop-i.i (shape_at c.args.shapes.now c.args.id);
}

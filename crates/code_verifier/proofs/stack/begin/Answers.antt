-- Answers of begin: where a kind is wanted and none is on the stack, the stack does not begin so.
use Rattle.std.proofs.Common.{◌∙◌, sym}
use Rattle.code_verifier.specs.ShapesByNumber.{shape_at}
use Rattle.code_verifier.proofs.Stacks.{no_more}
use Rattle.code_verifier.proofs.stack.begin.Goals as goal

pub returns-in-None : goal.returns-in-None
returns-in-None c =
    sym (c.loop-kind.invariant.same
    ∙ no_more c.args.kinds.now c.loop-kind.kind-index (shape_at c.args.shapes.now c.loop-kind.rest)
    c.loop-kind-test.true c.in-None.ensures)

-- `kind_of`: one variable after another.
use Rattle.std.proofs.Common.{◌∙◌, sym}
use Rattle.rev_record.proofs.Located.{kind_here, kind_later}
use Rattle.rev_record.proofs.kinds.kind_of.Goals as goal

pub returns-then-place-variable : goal.returns-then-place-variable
returns-then-place-variable c =
    sym (c.loop-variable.invariant
    ∙ kind_here c.args.variables.now c.loop-variable.variable-index c.variable-item.result c.loop-variable.place
    c.loop-variable-test.true c.variable-item.is c.if-place-variable.true)

pub loop-variable-preserved : goal.loop-variable-preserved
loop-variable-preserved c =
    c.loop-variable.invariant
    ∙ kind_later c.args.variables.now c.loop-variable.variable-index c.variable-item.result c.loop-variable.place
    c.loop-variable-test.true c.variable-item.is c.if-place-variable.false

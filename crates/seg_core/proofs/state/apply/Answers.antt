-- Answers of apply: whether the step is made or refused, all references stay counted and no segment is lost.
use Rattle.std.proofs.Common.{arith}
use Rattle.seg_core.specs.Shape.{step_of}
use Rattle.seg_core.specs.Cells.{core_of}
use Rattle.seg_core.proofs.Holds.{to_counted, of_counted, kept, sized}
use Rattle.seg_core.proofs.state.apply.Goals as goal

pub apply-requires : goal.apply-requires
apply-requires c = to_counted (core_of c.args.state.now.cells) c.args.state.now.counted

pub invariant_of-state : goal.invariant_of-state
invariant_of-state c =
    record {
      counted = of_counted (core_of c.apply.new.self)
          (kept c.args.state.now.cells c.apply.new.self (step_of c.args.step.now) c.apply.result
          (to_counted (core_of c.args.state.now.cells) c.args.state.now.counted)
          c.apply.ensures.done
          c.apply.ensures.refused);
    }

pub returns-clause-size : goal.returns-clause-size
returns-clause-size c = let same = sized c.args.state.now.cells c.apply.new.self
    (step_of c.args.step.now) c.apply.result c.apply.ensures.done c.apply.ensures.refused in
    omega arith

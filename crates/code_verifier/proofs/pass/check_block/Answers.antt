-- Answers of check_block: a step that breaks no rule leads the scan on by one, ready for the next instruction.
use Rattle.std.proofs.Common.{◌∙◌, get_or}
use Rattle.std.specs.Prelude.{pos}
use Rattle.rev_code.specs.declared.code.Instr.TheVariants as i
use Rattle.code_verifier.proofs.Passes.{scan_next, ready_next, slice_some}
use Rattle.code_verifier.proofs.pass.check_block.Goals as goal

pub loop-at-preserved : goal.loop-at-preserved
loop-at-preserved c = record {
  ready = ready_next c.args.scope.now c.loop-at.at
      (get_or c.as_slice-instrs.result.now c.loop-at.at (i.PushInt (pos 0))) c.step.new.self c.in_ok-rule.field-0
      c.in_ok-rule.ensures c.in-None.is;
  rest =
      c.loop-at.invariant.rest
      ∙ scan_next c.args.scope.now c.loop-at.at (get_or c.as_slice-instrs.result.now c.loop-at.at (i.PushInt (pos 0)))
      c.step.new.self c.in_ok-rule.field-0
      (slice_some c.as_slice-instrs.result.now c.args.scope.now.block.now.instrs c.loop-at.at (i.PushInt (pos 0))
      c.as_slice-instrs.ensures c.loop-at-test.true)
      c.in_ok-rule.ensures c.in-None.is;
}

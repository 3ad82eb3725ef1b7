-- Answers of note_block: the number that was read joins those before it, and at the end those before are all.
use Rattle.std.proofs.Common.{◌∙◌, ap, arith}
use Rattle.std.specs.Prelude.{slice_get}
use Rattle.code_soundness.proofs.Lists.{some_within}
use Rattle.fun_run.proofs.Short.{one_number}
use Rattle.fun_run.proofs.numbers.note_block.Goals as goal

pub loop-at-init : goal.loop-at-init
loop-at-init c = record { instrs = c.as_slice-instrs.ensures; short = λ m x h e. absurd (omega (arith, h)) }

pub loop-at-preserved : goal.loop-at-preserved
loop-at-preserved c = record {
  instrs = c.loop-at.invariant.instrs;
  short = one_number c.as_slice-instrs.result.now c.loop-at.at c.instr_at.result.now c.instr_at.ensures
      c.note_number.ensures c.loop-at.invariant.short;
}

pub returns : goal.returns
returns c = λ m x is.
    let v = c.loop-at.invariant in
    let at = ap (λ xs. slice_get xs m) v.instrs ∙ is in
    let w = some_within c.as_slice-instrs.result.now m x at in
    let t = c.loop-at-test.false in
    v.short m x (omega (arith, w, t)) at

-- Answers of note_numbers: the block that was read joins those before it, and at the end those before are all.
use Rattle.std.proofs.Common.{◌∙◌, ap, arith}
use Rattle.std.specs.Prelude.{slice_get}
use Rattle.code_soundness.proofs.Lists.{some_within}
use Rattle.fun_run.proofs.Short.{one_block}
use Rattle.fun_run.proofs.numbers.note_numbers.Goals as goal

pub loop-n-init : goal.loop-n-init
loop-n-init c = record { blocks = c.as_slice-blocks.ensures; short = λ m b at x h e k. absurd (omega (arith, h)) }

pub loop-n-preserved : goal.loop-n-preserved
loop-n-preserved c = record {
  blocks = c.loop-n.invariant.blocks;
  short = one_block c.as_slice-blocks.result.now c.loop-n.n c.block_in.result.now c.block_in.ensures
      c.note_block.ensures c.loop-n.invariant.short;
}

pub returns : goal.returns
returns c = λ m b at x is here.
    let v = c.loop-n.invariant in
    let there = ap (λ bs. slice_get bs m) v.blocks ∙ is in
    let w = some_within c.as_slice-blocks.result.now m b there in
    let t = c.loop-n-test.false in
    v.short m b at x (omega (arith, w, t)) there here

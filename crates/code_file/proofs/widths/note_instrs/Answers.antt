-- Answers of note_instrs: the instruction that was noted joins those before it, and at the end those before are all.
use Rattle.std.proofs.Common.{All, arith, subst}
use Rattle.std.proofs.lemmas.List.{take_all}
use Rattle.std.proofs.lemmas.List.Elements.{All-more}
use Rattle.code_file.specs.Laws.{IsInstr}
use Rattle.code_file.proofs.widths.note_instrs.Goals as goal

pub loop-x-preserved : goal.loop-x-preserved
loop-x-preserved c =
    All-more IsInstr c.args.instrs.now c.loop-x.x-index _ c.loop-x-test.true c.loop-x.invariant c.note_instr.ensures

pub returns : goal.returns
returns c =
    let t = c.loop-x-test.false in
    subst (All IsInstr) (take_all c.loop-x.x-index c.args.instrs.now (omega (arith, t))) c.loop-x.invariant

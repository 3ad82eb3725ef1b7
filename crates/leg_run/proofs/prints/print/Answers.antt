-- Answers of print: the typed stack holds the layout's values on top, so the printed line is that of the step.
use Rattle.std.proofs.Common.{subst, arith}
use Rattle.code_soundness.proofs.Basics.{some_within}
use Rattle.code_soundness.proofs.Accepting.{no_fault_accepted}
use Rattle.fun_run.proofs.Running.{block_short}
use Rattle.leg_run.specs.Changes.{Printed}
use Rattle.leg_run.proofs.Frames.{top_inside}
use Rattle.leg_run.proofs.Printing.{layout, above, print_goes}
use Rattle.leg_run.proofs.prints.print.Goals as goal

pub layout_at-items-requires : goal.layout_at-items-requires
layout_at-items-requires c =
    let q = c.requires.stands in
    layout c.args.setting.now.code c.args.setting.now.faultless c.args.setting.now.inputs.items c.args.setting.now.share
    c.args.run.now q.0 q.1 q.2 q.3 c.args.b.now c.requires.block c.args.n c.requires.instr

pub print_items-requires-clause-top : goal.print_items-requires-clause-top
print_items-requires-clause-top c =
    let q = c.requires.stands in
    top_inside c.args.setting.now.code c.args.setting.now.faultless c.args.setting.now.inputs.items
    c.args.setting.now.share c.args.run.now q.0 q.1 q.2 q.3 c.args.b.now c.requires.block

pub print_items-requires-clause-enough : goal.print_items-requires-clause-enough
print_items-requires-clause-enough c =
    let q = c.requires.stands in
    let a = above c.args.setting.now.code c.args.setting.now.faultless c.args.setting.now.inputs.items
    c.args.setting.now.share c.args.run.now q.0 q.1 q.2 q.3 c.args.b.now c.requires.block c.args.n c.requires.instr
    c.layout_at-items.result.now c.layout_at-items.ensures in
    omega (arith, a)

pub print_items-requires-clause-place : goal.print_items-requires-clause-place
print_items-requires-clause-place c =
    let a = block_short c.args.setting.now.code (no_fault_accepted c.args.setting.now.code c.args.setting.now.faultless)
    c.args.run.now.registers.block c.args.b.now c.requires.block in
    let w = some_within c.args.b.now.instrs c.args.run.now.registers.at _ c.requires.instr in
    omega (arith, a, w)

pub returns : goal.returns
returns c = λ seen root s st.
    print_goes c.args.setting.now.code c.args.setting.now.faultless c.args.setting.now.inputs.items
    c.args.setting.now.share c.args.run.now seen root s st c.args.b.now c.requires.block c.args.n c.requires.instr
    c.layout_at-items.result.now c.layout_at-items.ensures c.print_items.new.run
    (subst (λ texts. Printed texts c.layout_at-items.result.now c.args.run.now c.print_items.new.run) c.as_slice.ensures
    c.in_ok-print_items.ensures)

-- Answers of call: a call in the last frame that is allowed traps, and any other begins the frame of the step.
use Rattle.std.proofs.Common.{arith}
use Rattle.code_soundness.proofs.Basics.{some_within}
use Rattle.leg_run.proofs.Calling.{called_block, calls, too_deep, enters}
use Rattle.fun_run.proofs.Running.{block_short}
use Rattle.leg_run.proofs.Frames.{accepted, here, height, leaves_it, top_inside}
use Rattle.leg_run.proofs.calls.call.Goals as goal

pub returns-then-len-ge-MOST_FRAMES : goal.returns-then-len-ge-MOST_FRAMES
returns-then-len-ge-MOST_FRAMES c = λ seen root s st.
    let k = c.args.run.now.below.ok.0 in let e = c.len.ensures in let d = c.if-len-ge-MOST_FRAMES.true in
    let y = called_block c.args.setting.now.code c.args.setting.now.faultless c.args.setting.now.inputs.items
    c.args.setting.now.share c.args.run.now seen root s st c.args.b.now c.requires.block c.args.n c.requires.instr in (
      too_deep c.args.setting.now.code c.args.setting.now.faultless c.args.setting.now.inputs.items
          c.args.setting.now.share c.args.run.now seen root s st c.args.b.now c.requires.block c.args.n c.requires.instr
          y.0 y.1 (omega (arith, k, e, d)),
      leaves_it c.args.setting.now.code c.args.setting.now.faultless c.args.setting.now.inputs.items
          c.args.setting.now.share c.args.run.now seen root s st c.args.b.now c.requires.block,
    )

pub block_at-called-requires : goal.block_at-called-requires
block_at-called-requires c =
    let q = c.requires.stands in
    let y = called_block c.args.setting.now.code c.args.setting.now.faultless c.args.setting.now.inputs.items
    c.args.setting.now.share c.args.run.now q.0 q.1 q.2 q.3 c.args.b.now c.requires.block c.args.n c.requires.instr in
    (y.0, y.1)

pub enter-requires-clause-place : goal.enter-requires-clause-place
enter-requires-clause-place c =
    let a = block_short c.args.setting.now.code
    (accepted c.args.setting.now.code c.args.setting.now.faultless c.args.setting.now.inputs.items
    c.args.setting.now.share c.args.run.now c.requires.stands.0 c.requires.stands.1 c.requires.stands.2
    c.requires.stands.3 c.args.b.now c.requires.block)
    c.args.run.now.registers.block c.args.b.now c.requires.block in
    let w = some_within c.args.b.now.instrs c.args.run.now.registers.at _ c.requires.instr in
    omega (arith, a, w)

pub enter-requires-clause-args : goal.enter-requires-clause-args
enter-requires-clause-args c =
    let q = c.requires.stands in
    let y = calls c.args.setting.now.code c.args.setting.now.faultless c.args.setting.now.inputs.items
    c.args.setting.now.share c.args.run.now q.0 q.1 q.2 q.3 c.args.b.now c.requires.block c.args.n c.requires.instr
    c.block_at-called.result.now c.block_at-called.ensures in
    let m = y.many in
    let h = height c.args.setting.now.code c.args.setting.now.faultless c.args.setting.now.inputs.items
    c.args.setting.now.share c.args.run.now q.0 q.1 q.2 q.3 c.args.b.now c.requires.block in
    let u = top_inside c.args.setting.now.code c.args.setting.now.faultless c.args.setting.now.inputs.items
    c.args.setting.now.share c.args.run.now q.0 q.1 q.2 q.3 c.args.b.now c.requires.block in
    let t = (here c.args.setting.now.code c.args.setting.now.faultless c.args.setting.now.inputs.items
    c.args.setting.now.share c.args.run.now q.0 q.1 q.2 q.3 c.args.b.now c.requires.block).top in
    omega (arith, m, h, u, t)

pub enter-requires-clause-room : goal.enter-requires-clause-room
enter-requires-clause-room c =
    let h = c.room.ensures c.block_at-called.result.now c.block_at-called.ensures in
    let f = h.few in
    omega (arith, f)

pub enter-requires-clause-frame : goal.enter-requires-clause-frame
enter-requires-clause-frame c =
    let h = c.room.ensures c.block_at-called.result.now c.block_at-called.ensures in
    let f = h.frame in
    omega (arith, f)

pub returns : goal.returns
returns c = λ seen root s st.
    let k = c.args.run.now.below.ok.0 in let l = c.len.ensures in let d = c.if-len-ge-MOST_FRAMES.false in
    let h = c.room.ensures c.block_at-called.result.now c.block_at-called.ensures in
    enters c.args.setting.now.code c.args.setting.now.faultless c.args.setting.now.inputs.items c.args.setting.now.share
    c.args.run.now seen root s st c.args.b.now c.requires.block c.args.n c.requires.instr
    c.block_at-called.result.now c.block_at-called.ensures c.enter.new.run c.room.result c.in_ok-enter.ensures
    h (omega (arith, k, l, d))

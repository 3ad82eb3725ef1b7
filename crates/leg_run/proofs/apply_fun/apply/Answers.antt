-- Answers of apply: the arguments lie where the frame of the fun begins, so what evaluate gives is the fun's value.
use Rattle.std.proofs.Common.{◌≡◌, ◌∙◌, ◌-◌, ℕ, List, length, take, set, refl, sym, ap, subst, arith}
use Rattle.rev_code.specs.Step.{params}
use Rattle.code_soundness.proofs.Basics.{some_within}
use Rattle.block_run.proofs.Tables.{table_law}
use Rattle.code_soundness.proofs.Accepting.{no_fault_accepted}
use Rattle.fun_run.proofs.Running.{block_short}
use Rattle.version_map.specs.Deltas.{at}
use Rattle.version_map.specs.Overlay.{under}
use Rattle.leg_run.proofs.Frames.{refilled, top_inside}
use Rattle.leg_run.proofs.Applying.{applied_block, above, applies, given_here, room_here, of_value, faults, leaves_there, fits, value_here}
use Rattle.leg_run.proofs.apply_fun.apply.Goals as goal

pub block_at-applied-requires : goal.block_at-applied-requires
block_at-applied-requires g c =
    let q = c.requires.stands in
    let y = applied_block c.args.setting.now.code c.args.setting.now.faultless c.args.setting.now.inputs.items
    c.args.setting.now.share c.args.run.now
    (under c.args.memory.now.delta (g.P.Snapshot.base c.args.memory.now.snapshot)) (at c.args.memory.now.first.roots)
    q.0 q.1 c.args.b.now c.requires.block c.args.n c.requires.instr in
    (y.0, y.1)

pub overflow_sub-low : goal.overflow_sub-low
overflow_sub-low g c =
    let q = c.requires.stands in
    let a = above c.args.setting.now.code c.args.setting.now.faultless c.args.setting.now.inputs.items
    c.args.setting.now.share c.args.run.now
    (under c.args.memory.now.delta (g.P.Snapshot.base c.args.memory.now.snapshot)) (at c.args.memory.now.first.roots)
    q.0 q.1 c.args.b.now c.requires.block c.args.n c.requires.instr c.block_at-applied.result.now
    c.block_at-applied.ensures in
    let e = c.params_of.ensures in omega (arith, a, e)

pub overflow_add-low : goal.overflow_add-low
overflow_add-low g c =
    let q = c.requires.stands in
    let h = c.room.ensures c.block_at-applied.result.now c.block_at-applied.ensures in
    let f = h.few in
    let u = top_inside c.args.setting.now.code c.args.setting.now.faultless c.args.setting.now.inputs.items
    c.args.setting.now.share c.args.run.now
    (under c.args.memory.now.delta (g.P.Snapshot.base c.args.memory.now.snapshot)) (at c.args.memory.now.first.roots)
    q.0 q.1 c.args.b.now c.requires.block in
    let k = c.args.run.now.words.ok in
    grind (arith, f, u, k)

pub evaluate-requires-clause-accepted : goal.evaluate-requires-clause-accepted
evaluate-requires-clause-accepted g c = no_fault_accepted c.args.setting.now.code c.args.setting.now.faultless

pub evaluate-requires-clause-table : goal.evaluate-requires-clause-table
evaluate-requires-clause-table g c =
    table_law c.args.setting.now.code (no_fault_accepted c.args.setting.now.code c.args.setting.now.faultless)
    c.as_slice-table.result.now (c.as_slice-table.ensures.value ∙ c.args.setting.now.listed)

pub evaluate-requires-clause-value : goal.evaluate-requires-clause-value
evaluate-requires-clause-value g c =
    let q = c.requires.stands in
    of_value c.args.setting.now.code c.args.setting.now.faultless c.args.setting.now.inputs.items
    c.args.setting.now.share c.args.run.now
    (under c.args.memory.now.delta (g.P.Snapshot.base c.args.memory.now.snapshot)) (at c.args.memory.now.first.roots)
    q.0 q.1 c.args.b.now c.requires.block c.args.n c.requires.instr c.block_at-applied.result.now
    c.block_at-applied.ensures

pub evaluate-requires-clause-room : goal.evaluate-requires-clause-room
evaluate-requires-clause-room g c =
    let q = c.requires.stands in
    let h = c.room.ensures c.block_at-applied.result.now c.block_at-applied.ensures in
    room_here c.args.setting.now.code c.args.setting.now.faultless c.args.setting.now.inputs.items
    c.args.setting.now.share c.args.run.now
    (under c.args.memory.now.delta (g.P.Snapshot.base c.args.memory.now.snapshot)) (at c.args.memory.now.first.roots)
    q.0 q.1 c.args.b.now c.requires.block c.args.n c.requires.instr c.block_at-applied.result.now
    c.block_at-applied.ensures c.ensure.new.words.items c.in_ok-ensure.ensures.kept c.in_ok-ensure.ensures.long
    c.params_of.result c.params_of.ensures c.as_mut_slice.result.now c.as_mut_slice.ensures.value c.room.result h
    c.in_ok-ensure.ensures.enough

pub evaluate-requires-clause-args : goal.evaluate-requires-clause-args
evaluate-requires-clause-args g c =
    let q = c.requires.stands in (
      (applies c.args.setting.now.code c.args.setting.now.faultless c.args.setting.now.inputs.items
          c.args.setting.now.share c.args.run.now
          (under c.args.memory.now.delta (g.P.Snapshot.base c.args.memory.now.snapshot))
          (at c.args.memory.now.first.roots) q.0 q.1 c.args.b.now c.requires.block c.args.n c.requires.instr
          c.block_at-applied.result.now c.block_at-applied.ensures).args,
      given_here c.args.setting.now.code c.args.setting.now.faultless c.args.setting.now.inputs.items
          c.args.setting.now.share c.args.run.now
          (under c.args.memory.now.delta (g.P.Snapshot.base c.args.memory.now.snapshot))
          (at c.args.memory.now.first.roots) q.0 q.1 c.args.b.now c.requires.block c.args.n c.requires.instr
          c.block_at-applied.result.now c.block_at-applied.ensures c.ensure.new.words.items c.in_ok-ensure.ensures.kept
          c.in_ok-ensure.ensures.long c.params_of.result c.params_of.ensures c.as_mut_slice.result.now
          c.as_mut_slice.ensures.value,
    )

pub take_value-requires-clause-within : goal.take_value-requires-clause-within
take_value-requires-clause-within g c =
    let q = c.requires.stands in
    let v = c.in-Ok.ensures.value
    (applies c.args.setting.now.code c.args.setting.now.faultless c.args.setting.now.inputs.items
    c.args.setting.now.share c.args.run.now
    (under c.args.memory.now.delta (g.P.Snapshot.base c.args.memory.now.snapshot)) (at c.args.memory.now.first.roots)
    q.0 q.1 c.args.b.now c.requires.block c.args.n c.requires.instr c.block_at-applied.result.now
    c.block_at-applied.ensures).args
    (given_here c.args.setting.now.code c.args.setting.now.faultless c.args.setting.now.inputs.items
    c.args.setting.now.share c.args.run.now
    (under c.args.memory.now.delta (g.P.Snapshot.base c.args.memory.now.snapshot)) (at c.args.memory.now.first.roots)
    q.0 q.1 c.args.b.now c.requires.block c.args.n c.requires.instr c.block_at-applied.result.now
    c.block_at-applied.ensures c.ensure.new.words.items c.in_ok-ensure.ensures.kept c.in_ok-ensure.ensures.long
    c.params_of.result c.params_of.ensures c.as_mut_slice.result.now c.as_mut_slice.ensures.value) in
    let l = fits c.args.setting.now.code c.args.setting.now.faultless c.args.setting.now.inputs.items
    c.args.setting.now.share c.args.run.now
    (under c.args.memory.now.delta (g.P.Snapshot.base c.args.memory.now.snapshot)) (at c.args.memory.now.first.roots)
    q.0 q.1 c.args.b.now c.requires.block c.args.n c.requires.instr c.block_at-applied.result.now
    c.block_at-applied.ensures c.ensure.new.words.items c.in_ok-ensure.ensures.kept c.in_ok-ensure.ensures.long
    (under c.evaluate.new.memory.delta (g.P.Snapshot.base c.evaluate.new.memory.snapshot))
    (at c.evaluate.new.memory.first.roots) (g.P.Snapshot.size c.args.memory.now.snapshot) c.requires.size
    c.in-Ok.ensures.kept c.in-Ok.value v in
    let m = c.in_ok-ensure.ensures.long in
    let k = c.ensure.new.words.ok.0 in
    let a = c.evaluate.auto.words in
    let i = ap length c.as_mut_slice.ensures.value in
    let p = c.params_of.ensures in
    let w = ap length
    (refilled c.evaluate.new.words c.ensure.new.words.items c.ensure.new.words.len (omega (arith, k, a, i))) in
    omega (arith, l, m, a, i, p, w)

pub take_value-requires-clause-place : goal.take_value-requires-clause-place
take_value-requires-clause-place g c =
    let a = block_short c.args.setting.now.code (no_fault_accepted c.args.setting.now.code c.args.setting.now.faultless)
    c.args.run.now.registers.block c.args.b.now c.requires.block in
    let w = some_within c.args.b.now.instrs c.args.run.now.registers.at _ c.requires.instr in
    omega (arith, a, w)

pub returns-in-Ok-clause-turns : goal.returns-in-Ok-clause-turns
returns-in-Ok-clause-turns g c = λ s st.
    let v = c.in-Ok.ensures.value
    (applies c.args.setting.now.code c.args.setting.now.faultless c.args.setting.now.inputs.items
    c.args.setting.now.share c.args.run.now
    (under c.args.memory.now.delta (g.P.Snapshot.base c.args.memory.now.snapshot)) (at c.args.memory.now.first.roots) s
    st c.args.b.now c.requires.block c.args.n c.requires.instr c.block_at-applied.result.now
    c.block_at-applied.ensures).args
    (given_here c.args.setting.now.code c.args.setting.now.faultless c.args.setting.now.inputs.items
    c.args.setting.now.share c.args.run.now
    (under c.args.memory.now.delta (g.P.Snapshot.base c.args.memory.now.snapshot)) (at c.args.memory.now.first.roots) s
    st c.args.b.now c.requires.block c.args.n c.requires.instr c.block_at-applied.result.now c.block_at-applied.ensures
    c.ensure.new.words.items c.in_ok-ensure.ensures.kept c.in_ok-ensure.ensures.long c.params_of.result
    c.params_of.ensures c.as_mut_slice.result.now c.as_mut_slice.ensures.value) in
    let k = c.ensure.new.words.ok.0 in
    let a = c.evaluate.auto.words in
    let i = c.as_mut_slice.ensures.value in
    let il = ap length i in
    let p = c.params_of.ensures in
    let w = refilled c.evaluate.new.words c.ensure.new.words.items c.ensure.new.words.len (omega (arith, k, a, il)) in
    let below =
    subst (λ m.
    take (c.args.run.now.registers.top - m) c.evaluate.new.words
    ≡ take (c.args.run.now.registers.top - m) c.as_mut_slice.result.now)
    p c.in-Ok.ensures.below in
    let r = c.take_value.ensures in
    value_here c.args.setting.now.code c.args.setting.now.faultless c.args.setting.now.inputs.items
    c.args.setting.now.share c.args.run.now
    (under c.args.memory.now.delta (g.P.Snapshot.base c.args.memory.now.snapshot)) (at c.args.memory.now.first.roots) s
    st c.args.b.now c.requires.block c.args.n c.requires.instr c.block_at-applied.result.now c.block_at-applied.ensures
    c.ensure.new.words.items c.in_ok-ensure.ensures.kept c.in_ok-ensure.ensures.long
    (under c.evaluate.new.memory.delta (g.P.Snapshot.base c.evaluate.new.memory.snapshot))
    (at c.evaluate.new.memory.first.roots) (g.P.Snapshot.size c.args.memory.now.snapshot) c.requires.size
    c.in-Ok.ensures.kept c.in-Ok.value v c.evaluate.new.words
    (below ∙ ap (take (c.args.run.now.registers.top - length (params c.block_at-applied.result.now))) i) (a ∙ il)
    c.params_of.result p c.take_value.new.run
    (r.words ∙ ap (λ (ws : List ℕ). set ws (c.args.run.now.registers.top - c.params_of.result) c.in-Ok.value) w)
    r.registers r.below
    (record { text = r.rest.text; forks = r.rest.forks; meetings = r.rest.meetings })

pub returns-in-Err-clause-turns : goal.returns-in-Err-clause-turns
returns-in-Err-clause-turns g c = λ s st.
    let v = c.in-Err.ensures.value
    (applies c.args.setting.now.code c.args.setting.now.faultless c.args.setting.now.inputs.items
    c.args.setting.now.share c.args.run.now
    (under c.args.memory.now.delta (g.P.Snapshot.base c.args.memory.now.snapshot)) (at c.args.memory.now.first.roots) s
    st c.args.b.now c.requires.block c.args.n c.requires.instr c.block_at-applied.result.now
    c.block_at-applied.ensures).args
    (given_here c.args.setting.now.code c.args.setting.now.faultless c.args.setting.now.inputs.items
    c.args.setting.now.share c.args.run.now
    (under c.args.memory.now.delta (g.P.Snapshot.base c.args.memory.now.snapshot)) (at c.args.memory.now.first.roots) s
    st c.args.b.now c.requires.block c.args.n c.requires.instr c.block_at-applied.result.now c.block_at-applied.ensures
    c.ensure.new.words.items c.in_ok-ensure.ensures.kept c.in_ok-ensure.ensures.long c.params_of.result
    c.params_of.ensures c.as_mut_slice.result.now c.as_mut_slice.ensures.value) in
    let l = leaves_there c.args.setting.now.code c.args.setting.now.faultless c.args.setting.now.inputs.items
    c.args.setting.now.share c.args.run.now
    (under c.args.memory.now.delta (g.P.Snapshot.base c.args.memory.now.snapshot)) (at c.args.memory.now.first.roots) s
    st c.args.b.now c.requires.block c.args.n c.requires.instr c.block_at-applied.result.now c.block_at-applied.ensures
    c.ensure.new.words.items c.in_ok-ensure.ensures.kept c.in_ok-ensure.ensures.long
    (under c.evaluate.new.memory.delta (g.P.Snapshot.base c.evaluate.new.memory.snapshot))
    (at c.evaluate.new.memory.first.roots) (g.P.Snapshot.size c.args.memory.now.snapshot) c.requires.size
    c.in-Err.ensures.kept c.args.run.now refl (record { text = refl; forks = refl; meetings = refl }) in (
      faults c.args.setting.now.code c.args.setting.now.faultless c.args.setting.now.inputs.items
          c.args.setting.now.share c.args.run.now
          (under c.args.memory.now.delta (g.P.Snapshot.base c.args.memory.now.snapshot))
          (at c.args.memory.now.first.roots) s st c.args.b.now c.requires.block c.args.n c.requires.instr
          c.block_at-applied.result.now c.block_at-applied.ensures c.ensure.new.words.items c.in_ok-ensure.ensures.kept
          c.in_ok-ensure.ensures.long
          (under c.evaluate.new.memory.delta (g.P.Snapshot.base c.evaluate.new.memory.snapshot))
          (at c.evaluate.new.memory.first.roots) (g.P.Snapshot.size c.args.memory.now.snapshot) c.requires.size
          c.in-Err.ensures.kept c.in-Err.fault v
          ∙ ap (Rattle.rev_code.specs.Step.traps s) (sym c.cause_of.ensures),
      record {
        locations = l.locations;
        kinds = l.kinds;
        fuel = l.fuel;
        line = l.line;
        forks = l.forks;
        listed = l.listed;
        text = l.text;
      },
    )

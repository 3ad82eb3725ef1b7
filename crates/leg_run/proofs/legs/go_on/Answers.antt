-- Answers of go_on: the block's noted steps, and then the one instruction there, make a noted round.
use Rattle.std.proofs.Common.{◌∙◌, length, take, refl, sym, ap, subst, arith}
use Rattle.std.proofs.lemmas.Result.{IfOk-weaker}
use Rattle.std.specs.Prelude.{slice_get}
use Rattle.version_map.specs.Deltas.{at}
use Rattle.version_map.specs.Overlay.{under}
use Rattle.code_soundness.proofs.Accepting.{no_fault_accepted}
use Rattle.block_run.proofs.Tables.{table_law}
use Rattle.block_run.specs.Area.{count}
use Rattle.block_run.specs.Standing.{program}
use Rattle.block_run.specs.declared.registers.Stop.TheVariants as stop
use Rattle.fun_run.proofs.Running.{block_short}
use Rattle.leg_run.specs.Noting.{HasPlacesIfOn}
use Rattle.leg_run.proofs.Frames.{here, refilled}
use Rattle.leg_run.proofs.NotedLegs.{ends_noting_for, leaving_noting, trapped_noting, turned_noting}
use Rattle.leg_run.proofs.Rounding.{here_for, stands_now}
use Rattle.leg_run.proofs.legs.go_on.Goals as goal

pub run_leg_block-requires-clause-accepted : goal.run_leg_block-requires-clause-accepted
run_leg_block-requires-clause-accepted g c = no_fault_accepted c.args.setting.now.code c.args.setting.now.faultless

pub run_leg_block-requires-clause-table : goal.run_leg_block-requires-clause-table
run_leg_block-requires-clause-table g c =
    table_law c.args.setting.now.code (no_fault_accepted c.args.setting.now.code c.args.setting.now.faultless)
    c.as_slice-table.result.now (c.as_slice-table.ensures.value ∙ c.args.setting.now.listed)

pub run_leg_block-requires-clause-short : goal.run_leg_block-requires-clause-short
run_leg_block-requires-clause-short g c =
    block_short c.args.setting.now.code (no_fault_accepted c.args.setting.now.code c.args.setting.now.faultless)
    c.args.run.now.registers.block c.block_at-b.result.now c.block_at-b.ensures

pub run_leg_block-requires-clause-places : goal.run_leg_block-requires-clause-places
run_leg_block-requires-clause-places g c =
    subst (λ is. HasPlacesIfOn (count c.args.setting.now.code.vars) is c.args.notes.now)
    (sym c.as_slice-inputs.ensures.value) c.requires.places

pub turn_at-requires : goal.turn_at-requires
turn_at-requires g c =
    let q = c.requires.stands in
    let l = leaving_noting _ c.args.setting.now.code c.args.setting.now.inputs.items c.args.setting.now.share
    c.block_at-b.result.now q.0 c.run_leg_block.result c.run_leg_block.new.words c.run_leg_block.new.registers
    (under c.run_leg_block.new.memory.delta (g.P.Snapshot.base c.run_leg_block.new.memory.snapshot))
    (at c.run_leg_block.new.memory.first.roots) c.args.notes.now c.run_leg_block.new.notes
    (ends_noting_for _ c.args.setting.now.code c.args.setting.now.inputs.items c.as_slice-inputs.result.now
    c.args.setting.now.share c.block_at-b.result.now q.0 c.run_leg_block.result c.run_leg_block.new.words
    c.run_leg_block.new.registers
    (under c.run_leg_block.new.memory.delta (g.P.Snapshot.base c.run_leg_block.new.memory.snapshot))
    (at c.run_leg_block.new.memory.first.roots) c.args.notes.now c.run_leg_block.new.notes
    c.as_slice-inputs.ensures.value
    (c.run_leg_block.ensures.ends (program c.args.setting.now.share) q.0
    (here_for c.args.setting.now.code c.args.setting.now.inputs.items c.as_slice-inputs.result.now
    c.args.setting.now.share c.block_at-b.result.now q.0 c.args.run.now.words.items c.as_mut_slice-words.result.now
    c.args.run.now.registers (under c.args.memory.now.delta (g.P.Snapshot.base c.args.memory.now.snapshot))
    (at c.args.memory.now.first.roots) c.as_slice-inputs.ensures.value c.as_mut_slice-words.ensures.value
    (here c.args.setting.now.code c.args.setting.now.faultless c.args.setting.now.inputs.items c.args.setting.now.share
    c.args.run.now (under c.args.memory.now.delta (g.P.Snapshot.base c.args.memory.now.snapshot))
    (at c.args.memory.now.first.roots) q.0 q.1 c.block_at-b.result.now c.block_at-b.ensures))))
    c.in_default.not-Traps in
    let value = c.as_mut_slice-words.ensures.value in
    let il = ap length value in
    let long = c.run_leg_block.auto.words in
    let k = c.args.run.now.words.ok.0 in
    record {
      size = c.run_leg_block.ensures.size ∙ c.requires.size;
      block = ap (slice_get c.args.setting.now.code.blocks) c.run_leg_block.ensures.block ∙ c.block_at-b.ensures;
      leaves = (l.leaving.instr, l.leaving.at, l.leaving.leaves);
      stands = (
        l.leaving.ahead.now,
        stands_now c.args.setting.now.code c.args.setting.now.faultless c.args.setting.now.inputs.items
            c.args.setting.now.share c.args.run.now
            (under c.args.memory.now.delta (g.P.Snapshot.base c.args.memory.now.snapshot))
            (at c.args.memory.now.first.roots) q.0 q.1 c.block_at-b.result.now c.block_at-b.ensures
            c.run_leg_block.new.words c.run_leg_block.new.registers
            (under c.run_leg_block.new.memory.delta (g.P.Snapshot.base c.run_leg_block.new.memory.snapshot))
            (at c.run_leg_block.new.memory.first.roots) l.leaving.ahead c.run_leg_block.ensures.block
            c.run_leg_block.ensures.base
            (c.run_leg_block.ensures.below ∙ ap (take c.args.run.now.registers.base) value) (long ∙ il) _
            (refilled c.run_leg_block.new.words c.args.run.now.words.items c.args.run.now.words.len
            (omega (arith, k, long, il)))
            refl refl (record { text = refl; forks = refl; meetings = refl }),
      );
    }

pub returns-in-Traps-clause-rounds : goal.returns-in-Traps-clause-rounds
returns-in-Traps-clause-rounds g c = λ s st.
    trapped_noting _ c.args.setting.now.code c.args.setting.now.faultless c.args.setting.now.inputs.items
    c.args.setting.now.share c.args.run.now
    (under c.args.memory.now.delta (g.P.Snapshot.base c.args.memory.now.snapshot)) (at c.args.memory.now.first.roots) s
    st c.block_at-b.result.now c.block_at-b.ensures c.in-Traps.cause c.run_leg_block.new.words
    c.run_leg_block.new.registers
    (under c.run_leg_block.new.memory.delta (g.P.Snapshot.base c.run_leg_block.new.memory.snapshot))
    (at c.run_leg_block.new.memory.first.roots) c.args.notes.now c.run_leg_block.new.notes
    (ends_noting_for _ c.args.setting.now.code c.args.setting.now.inputs.items c.as_slice-inputs.result.now
    c.args.setting.now.share c.block_at-b.result.now s (stop.Traps c.in-Traps.cause) c.run_leg_block.new.words
    c.run_leg_block.new.registers
    (under c.run_leg_block.new.memory.delta (g.P.Snapshot.base c.run_leg_block.new.memory.snapshot))
    (at c.run_leg_block.new.memory.first.roots) c.args.notes.now c.run_leg_block.new.notes
    c.as_slice-inputs.ensures.value
    (c.in-Traps.ensures.ends (program c.args.setting.now.share) s
    (here_for c.args.setting.now.code c.args.setting.now.inputs.items c.as_slice-inputs.result.now
    c.args.setting.now.share c.block_at-b.result.now s c.args.run.now.words.items c.as_mut_slice-words.result.now
    c.args.run.now.registers (under c.args.memory.now.delta (g.P.Snapshot.base c.args.memory.now.snapshot))
    (at c.args.memory.now.first.roots) c.as_slice-inputs.ensures.value c.as_mut_slice-words.ensures.value
    (here c.args.setting.now.code c.args.setting.now.faultless c.args.setting.now.inputs.items c.args.setting.now.share
    c.args.run.now (under c.args.memory.now.delta (g.P.Snapshot.base c.args.memory.now.snapshot))
    (at c.args.memory.now.first.roots) s st c.block_at-b.result.now c.block_at-b.ensures))))
    _ refl (record { text = refl; forks = refl; meetings = refl })

pub returns-in_default : goal.returns-in_default
returns-in_default g c =
    let value = c.as_mut_slice-words.ensures.value in
    let il = ap length value in
    let long = c.run_leg_block.auto.words in
    let k = c.args.run.now.words.ok.0 in
    record {
      rounds = IfOk-weaker c.turn_at.result _ _ (λ t turns s st.
          let l = leaving_noting _ c.args.setting.now.code c.args.setting.now.inputs.items c.args.setting.now.share
          c.block_at-b.result.now s c.run_leg_block.result c.run_leg_block.new.words
          c.run_leg_block.new.registers
          (under c.run_leg_block.new.memory.delta (g.P.Snapshot.base c.run_leg_block.new.memory.snapshot))
          (at c.run_leg_block.new.memory.first.roots) c.args.notes.now c.run_leg_block.new.notes
          (ends_noting_for _ c.args.setting.now.code c.args.setting.now.inputs.items c.as_slice-inputs.result.now
          c.args.setting.now.share c.block_at-b.result.now s c.run_leg_block.result c.run_leg_block.new.words
          c.run_leg_block.new.registers
          (under c.run_leg_block.new.memory.delta (g.P.Snapshot.base c.run_leg_block.new.memory.snapshot))
          (at c.run_leg_block.new.memory.first.roots) c.args.notes.now c.run_leg_block.new.notes
          c.as_slice-inputs.ensures.value
          (c.run_leg_block.ensures.ends (program c.args.setting.now.share) s
          (here_for c.args.setting.now.code c.args.setting.now.inputs.items c.as_slice-inputs.result.now
          c.args.setting.now.share c.block_at-b.result.now s c.args.run.now.words.items c.as_mut_slice-words.result.now
          c.args.run.now.registers (under c.args.memory.now.delta (g.P.Snapshot.base c.args.memory.now.snapshot))
          (at c.args.memory.now.first.roots) c.as_slice-inputs.ensures.value c.as_mut_slice-words.ensures.value
          (here c.args.setting.now.code c.args.setting.now.faultless c.args.setting.now.inputs.items
          c.args.setting.now.share c.args.run.now
          (under c.args.memory.now.delta (g.P.Snapshot.base c.args.memory.now.snapshot))
          (at c.args.memory.now.first.roots) s st c.block_at-b.result.now c.block_at-b.ensures))))
          c.in_default.not-Traps in
          turned_noting _ c.args.setting.now.code c.args.setting.now.faultless c.args.setting.now.inputs.items
          c.args.setting.now.share c.block_at-b.result.now s c.run_leg_block.new.words
          c.run_leg_block.new.registers
          (under c.run_leg_block.new.memory.delta (g.P.Snapshot.base c.run_leg_block.new.memory.snapshot))
          (at c.run_leg_block.new.memory.first.roots) c.args.notes.now c.run_leg_block.new.notes l
          c.args.setting.now.given
          (ap (slice_get c.args.setting.now.code.blocks) c.run_leg_block.ensures.block ∙ c.block_at-b.ensures)
          c.turn_at.new.run (under c.turn_at.new.memory.delta (g.P.Snapshot.base c.turn_at.new.memory.snapshot))
          (at c.turn_at.new.memory.first.roots) t
          (turns l.leaving.ahead.now
          (stands_now c.args.setting.now.code c.args.setting.now.faultless c.args.setting.now.inputs.items
          c.args.setting.now.share c.args.run.now
          (under c.args.memory.now.delta (g.P.Snapshot.base c.args.memory.now.snapshot))
          (at c.args.memory.now.first.roots) s st c.block_at-b.result.now c.block_at-b.ensures
          c.run_leg_block.new.words c.run_leg_block.new.registers
          (under c.run_leg_block.new.memory.delta (g.P.Snapshot.base c.run_leg_block.new.memory.snapshot))
          (at c.run_leg_block.new.memory.first.roots) l.leaving.ahead c.run_leg_block.ensures.block
          c.run_leg_block.ensures.base
          (c.run_leg_block.ensures.below ∙ ap (take c.args.run.now.registers.base) value) (long ∙ il) _
          (refilled c.run_leg_block.new.words c.args.run.now.words.items c.args.run.now.words.len
          (omega (arith, k, long, il)))
          refl refl (record { text = refl; forks = refl; meetings = refl }))))
          c.turn_at.ensures.turns;
      size = c.turn_at.ensures.size ∙ c.run_leg_block.ensures.size;
      group = c.turn_at.ensures.group ∙ c.run_leg_block.ensures.group;
    }

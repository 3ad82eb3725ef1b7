-- Answers of turn_at: a Fork, Join or TryJoin ends the leg, with the revision standing where it stood.
use Rattle.version_map.specs.Deltas.{at}
use Rattle.version_map.specs.Overlay.{under}
use Rattle.leg_run.proofs.Joining.{fork_ends}
use Rattle.leg_run.proofs.Rounding.{stands_at}
use Rattle.leg_run.proofs.legs.turn_at.Goals as goal

pub returns-in-Fork-clause-turns : goal.returns-in-Fork-clause-turns
returns-in-Fork-clause-turns g c = λ s st. (
  fork_ends c.args.setting.now.code c.args.setting.now.faultless c.args.setting.now.inputs.items
      c.args.setting.now.share c.args.run.now
      (under c.args.memory.now.delta (g.P.Snapshot.base c.args.memory.now.snapshot)) (at c.args.memory.now.first.roots)
      s st c.args.b.now c.requires.block c.in-Fork.n c.in-Fork.ensures,
  st,
)

pub returns-in-Join-clause-turns : goal.returns-in-Join-clause-turns
returns-in-Join-clause-turns g c = λ s st. (
  c.join.ensures (under c.args.memory.now.delta (g.P.Snapshot.base c.args.memory.now.snapshot))
      (at c.args.memory.now.first.roots) s st,
  stands_at c.args.setting.now.code c.args.setting.now.faultless c.args.setting.now.inputs.items
      c.args.setting.now.share c.args.run.now
      (under c.args.memory.now.delta (g.P.Snapshot.base c.args.memory.now.snapshot)) (at c.args.memory.now.first.roots)
      s st c.args.b.now c.requires.block c.join.result,
)

pub returns-in-TryJoin-clause-turns : goal.returns-in-TryJoin-clause-turns
returns-in-TryJoin-clause-turns g c = λ s st. (
  c.join-in-TryJoin.ensures (under c.args.memory.now.delta (g.P.Snapshot.base c.args.memory.now.snapshot))
      (at c.args.memory.now.first.roots) s st,
  stands_at c.args.setting.now.code c.args.setting.now.faultless c.args.setting.now.inputs.items
      c.args.setting.now.share c.args.run.now
      (under c.args.memory.now.delta (g.P.Snapshot.base c.args.memory.now.snapshot)) (at c.args.memory.now.first.roots)
      s st c.args.b.now c.requires.block c.join-in-TryJoin.result,
)

-- Loops of run: noted steps lead from the first state to where the revision stands; size and group stay.
use Rattle.std.proofs.Common.{◌≡◌}
use mathlib.Core.Bool.{not}
use lib.Dec.{eqb}
use Rattle.version_map.specs.Deltas.{at}
use Rattle.version_map.specs.Overlay.{under}
use Rattle.code_machine.specs.Leg.{clock}
use Rattle.leg_run.specs.Standing.{state_of}
use Rattle.leg_run.proofs.NotedLegs.{AheadTo}
use Rattle.leg_run.proofs.legs.run.Given as goal

abbrev pub invariant-loop-end : goal.invariant-loop-end
invariant-loop-end g l = record {
  ahead : AheadTo (not (eqb g.row.NOTING 0)) l.setting.code l.setting.inputs.items l.setting.share
      (state_of l.setting.code l.initial.revision.run
      (under l.initial.revision.memory.delta (g.P.Snapshot.base l.initial.revision.memory.snapshot))
      (at l.initial.revision.memory.first.roots))
      l.revision.run (under l.revision.memory.delta (g.P.Snapshot.base l.revision.memory.snapshot))
      (at l.revision.memory.first.roots) l.initial.notes l.notes;
  size : g.P.Snapshot.size l.revision.memory.snapshot ≡ g.P.Snapshot.size l.initial.revision.memory.snapshot;
  group : g.P.Snapshot.group l.revision.memory.snapshot ≡ g.P.Snapshot.group l.initial.revision.memory.snapshot;
}

abbrev pub decreases-loop-end : goal.decreases-loop-end
decreases-loop-end g l =
    clock (record { code = l.setting.code; inputs = l.setting.inputs.items; share = l.setting.share })
    (state_of l.setting.code l.revision.run
    (under l.revision.memory.delta (g.P.Snapshot.base l.revision.memory.snapshot)) (at l.revision.memory.first.roots))

-- Loops of Memory::list_written: what was written below the place reached is listed, and the memory shows what it did.
use Rattle.std.proofs.Common.{◌≡◌, ◌≤◌, ◌-◌, vec_capacity}
use Rattle.version_map.specs.declared.snapshot.Collapsed.{Collapsed}
use Rattle.version_map.specs.Deltas.{at}
use Rattle.version_map.specs.Overlay.{under}
use Rattle.block_run.specs.Remembering.{written_below, Kept}
use Rattle.block_run.proofs.memory.Memory.list_written.Given as goal

abbrev pub invariant-loop-location : goal.invariant-loop-location
invariant-loop-location g l = record {
  within : l.from ≤ g.P.Snapshot.size l.initial.self.snapshot;
  written : l.written.items
      ≡ written_below (under l.initial.self.delta (g.P.Snapshot.base l.initial.self.snapshot))
      (at l.initial.self.first.roots) l.from;
  kept : Kept (g.P.Snapshot.size l.initial.self.snapshot)
      (under l.initial.self.delta (g.P.Snapshot.base l.initial.self.snapshot))
      (under l.self.delta (g.P.Snapshot.base l.self.snapshot))
      (at l.initial.self.first.roots) (at l.self.first.roots);
  room : vec_capacity l.written ≡ vec_capacity l.initial.written;
  size : g.P.Snapshot.size l.self.snapshot ≡ g.P.Snapshot.size l.initial.self.snapshot;
  group : g.P.Snapshot.group l.self.snapshot ≡ g.P.Snapshot.group l.initial.self.snapshot;
  answered : (c : Collapsed) → g.P.Snapshot.answered l.initial.self.snapshot c
      → g.P.Snapshot.answered l.self.snapshot c;
}

abbrev pub decreases-loop-location : goal.decreases-loop-location
decreases-loop-location g l = g.P.Snapshot.size l.initial.self.snapshot - l.from

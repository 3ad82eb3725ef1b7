-- Loops of write_all: for all locations for which the memory stood, it stands for those that are written so far.
use Rattle.std.proofs.Common.{◌≡◌, ◌-◌, ◌≤◌, length}
use Rattle.version_map.specs.declared.snapshot.Collapsed.{Collapsed}
use Rattle.version_map.specs.Deltas.{at}
use Rattle.version_map.specs.Overlay.{under}
use Rattle.rev_vm.proofs.Writing.{IsOn}
use Rattle.rev_vm.proofs.memory.write_all.Given as goal

-- for all locations for which the memory stood, it stands for those that are written so far
abbrev pub invariant-loop-at : goal.invariant-loop-at
invariant-loop-at g l = record {
  on : IsOn (g.P.Snapshot.size l.initial.memory.snapshot) l.written l.values l.at
      (under l.initial.memory.delta (g.P.Snapshot.base l.initial.memory.snapshot)) (at l.initial.memory.first.roots)
      (under l.memory.delta (g.P.Snapshot.base l.memory.snapshot)) (at l.memory.first.roots);
  within : l.at ≤ length l.written;
  size : g.P.Snapshot.size l.memory.snapshot ≡ g.P.Snapshot.size l.initial.memory.snapshot;
  group : g.P.Snapshot.group l.memory.snapshot ≡ g.P.Snapshot.group l.initial.memory.snapshot;
  answered : (c : Collapsed) → g.P.Snapshot.answered l.initial.memory.snapshot c
      → g.P.Snapshot.answered l.memory.snapshot c;
}

abbrev pub decreases-loop-at : goal.decreases-loop-at
decreases-loop-at g l = length l.written - l.at

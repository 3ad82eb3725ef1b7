-- Loops of read_all: the words so far are those that were seen at first, and the memory shows what it showed.
use Rattle.std.proofs.Common.{◌≡◌, ◌-◌, ◌≤◌, length, map, take, vec_capacity, vec_len}
use Rattle.version_map.specs.declared.snapshot.Collapsed.{Collapsed}
use Rattle.version_map.specs.Deltas.{at}
use Rattle.version_map.specs.Overlay.{under}
use Rattle.block_run.specs.Remembering.{Kept}
use Rattle.rev_vm.proofs.memory.read_all.Given as goal

abbrev pub invariant-loop-at : goal.invariant-loop-at
invariant-loop-at g l = record {
  words : l.words.items
      ≡ map (λ w. under l.initial.memory.delta (g.P.Snapshot.base l.initial.memory.snapshot) w.location)
      (take l.at l.written);
  within : l.at ≤ length l.written;
  many : vec_len l.words ≡ l.at;
  room : length l.written ≤ vec_capacity l.words;
  kept : Kept (g.P.Snapshot.size l.initial.memory.snapshot)
      (under l.initial.memory.delta (g.P.Snapshot.base l.initial.memory.snapshot))
      (under l.memory.delta (g.P.Snapshot.base l.memory.snapshot))
      (at l.initial.memory.first.roots) (at l.memory.first.roots);
  size : g.P.Snapshot.size l.memory.snapshot ≡ g.P.Snapshot.size l.initial.memory.snapshot;
  group : g.P.Snapshot.group l.memory.snapshot ≡ g.P.Snapshot.group l.initial.memory.snapshot;
  answered : (c : Collapsed) → g.P.Snapshot.answered l.initial.memory.snapshot c
      → g.P.Snapshot.answered l.memory.snapshot c;
}

abbrev pub decreases-loop-at : goal.decreases-loop-at
decreases-loop-at g l = length l.written - l.at

-- Loops of Memory::room: there is room for all that was written in the rows so far.
use Rattle.std.proofs.Common.{◌≤◌, ◌*◌, ◌-◌}
use Rattle.version_map.specs.Masks.{rows}
use Rattle.version_map.specs.Deltas.{at, locations}
use Rattle.block_run.specs.Remembering.{written_count}
use Rattle.block_run.proofs.memory.Memory.room.Given as goal

abbrev pub invariant-loop-row : goal.invariant-loop-row
invariant-loop-row g l = record {
  few : l.room ≤ 64 * l.from;
  within : l.from ≤ rows (locations l.self.first.roots);
  room : written_count (at l.self.first.roots) (64 * l.from) ≤ l.room;
}

abbrev pub decreases-loop-row : goal.decreases-loop-row
decreases-loop-row g l = rows (locations l.self.first.roots) - l.from

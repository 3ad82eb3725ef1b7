-- Loops of Delta::clear: the rows so far are 0, and there are as many locations as at first.
use Rattle.std.proofs.Common.{◌≡◌, ◌-◌}
use Rattle.version_map.specs.Masks.{rows}
use Rattle.version_map.specs.Deltas.{locations, AreEmptyRows}
use Rattle.version_map.proofs.delta.Delta.clear.Given as goal

abbrev pub invariant-loop-row : goal.invariant-loop-row
invariant-loop-row l = (locations l.self ≡ locations l.initial.self) × AreEmptyRows l.self 0 l.from

abbrev pub decreases-loop-row : goal.decreases-loop-row
decreases-loop-row l = rows (locations l.self) - l.from

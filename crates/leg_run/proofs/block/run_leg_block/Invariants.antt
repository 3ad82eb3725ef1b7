-- Loops of run_leg_block: from each state that stood at first noted steps lead to one that stands now.
use Rattle.std.proofs.Common.{◌≡◌, ℕ, length, take, Some}
use Rattle.std.specs.Prelude.{slice_get}
use mathlib.Core.Bool.{not}
use lib.Dec.{eqb}
use Rattle.rev_code.specs.State.{State}
use Rattle.version_map.specs.Deltas.{at}
use Rattle.version_map.specs.Overlay.{under}
use Rattle.block_run.specs.Standing.{Mode, Here, weight}
use Rattle.leg_run.specs.Runs.{AheadNoting}
use Rattle.leg_run.proofs.block.run_leg_block.Given as goal

-- each state for which the machine stood at first has steps to one for which it stands now
abbrev pub invariant-loop-x : goal.invariant-loop-x
invariant-loop-x g l = record {
  instrs : l.instrs ≡ l.b.instrs;
  next : slice_get l.instrs l.r.at ≡ Some l.x;
  registers : l.registers ≡ l.initial.registers;
  words : length l.words ≡ length l.initial.words;
  ahead : (m : Mode) (c : State ℕ) → Here l.code l.inputs m l.b c l.initial.words l.initial.registers
      (under l.initial.memory.delta (g.P.Snapshot.base l.initial.memory.snapshot)) (at l.initial.memory.first.roots)
      → AheadNoting (not (eqb g.row.NOTING 0)) l.code l.inputs m l.b c l.words l.r
      (under l.memory.delta (g.P.Snapshot.base l.memory.snapshot))
      (at l.memory.first.roots) l.initial.notes l.notes;
  block : l.r.block ≡ l.initial.registers.block;
  base : l.r.base ≡ l.initial.registers.base;
  below : take l.initial.registers.base l.words ≡ take l.initial.registers.base l.initial.words;
  size : g.P.Snapshot.size l.memory.snapshot ≡ g.P.Snapshot.size l.initial.memory.snapshot;
  group : g.P.Snapshot.group l.memory.snapshot ≡ g.P.Snapshot.group l.initial.memory.snapshot;
}

abbrev pub decreases-loop-x : goal.decreases-loop-x
decreases-loop-x g l = weight l.b.instrs l.r.at l.r.fuel

-- Loops of run_block: steps lead from where the machine stood to where it stands; block and words below stay.
use Rattle.std.proofs.Common.{◌≡◌, ℕ, true, length, take, Some}
use Rattle.std.specs.Prelude.{slice_get}
use Rattle.rev_code.specs.State.{State}
use Rattle.version_map.specs.Deltas.{at}
use Rattle.version_map.specs.Overlay.{under}
use Rattle.code_rules.specs.Pass.{is_value_class}
use Rattle.block_run.specs.Remembering.{Kept}
use Rattle.block_run.specs.Standing.{Mode, Here, Ahead, weight}
use Rattle.block_run.specs.declared.notes.Notes.TheVariants as notes
use Rattle.block_run.proofs.block.run_block.Given as goal

-- each state for which the machine stood at first has steps to one for which it stands now
abbrev pub invariant-loop-x : goal.invariant-loop-x
invariant-loop-x g l = record {
  instrs : l.instrs ≡ l.b.instrs;
  next : slice_get l.instrs l.r.at ≡ Some l.x;
  notes : l.notes ≡ notes.Off;
  registers : l.registers ≡ l.initial.registers;
  words : length l.words ≡ length l.initial.words;
  ahead : (m : Mode) (c : State ℕ) → Here l.code l.inputs m l.b c l.initial.words l.initial.registers
      (under l.initial.memory.delta (g.P.Snapshot.base l.initial.memory.snapshot)) (at l.initial.memory.first.roots)
      → Ahead l.code l.inputs m l.b c l.words l.r (under l.memory.delta (g.P.Snapshot.base l.memory.snapshot))
      (at l.memory.first.roots);
  kept : is_value_class l.b.class ≡ true → Kept (g.P.Snapshot.size l.initial.memory.snapshot)
      (under l.initial.memory.delta (g.P.Snapshot.base l.initial.memory.snapshot))
      (under l.memory.delta (g.P.Snapshot.base l.memory.snapshot))
      (at l.initial.memory.first.roots) (at l.memory.first.roots);
  block : l.r.block ≡ l.initial.registers.block;
  base : l.r.base ≡ l.initial.registers.base;
  below : take l.initial.registers.base l.words ≡ take l.initial.registers.base l.initial.words;
  size : g.P.Snapshot.size l.memory.snapshot ≡ g.P.Snapshot.size l.initial.memory.snapshot;
  group : g.P.Snapshot.group l.memory.snapshot ≡ g.P.Snapshot.group l.initial.memory.snapshot;
}

abbrev pub decreases-loop-x : goal.decreases-loop-x
decreases-loop-x g l = weight l.b.instrs l.r.at l.r.fuel

-- Loops of evaluate: for the first arguments steps lead to where the frame stands; words below and memory stay.
use Rattle.std.proofs.Common.{◌≡◌, ◌-◌, ℕ, List, [], Some, length, take}
use Rattle.std.specs.Prelude.{slice_get}
use Rattle.rev_code.specs.Words.{Word}
use Rattle.rev_code.specs.Funs.{fun_start}
use Rattle.version_map.specs.Deltas.{at}
use Rattle.version_map.specs.Overlay.{under}
use Rattle.block_run.specs.Remembering.{Kept}
use Rattle.block_run.specs.Standing.{Ahead, value}
use Rattle.fun_run.specs.Values.{IsArgs}
use Rattle.fun_run.proofs.evaluation.+evaluate.Given as goal

abbrev pub decreases-evaluate : goal.decreases-evaluate
decreases-evaluate g l = l.n

-- for all arguments for which the words stood, the evaluation has come to where the machine stands
abbrev pub invariant-loop-cause : goal.invariant-loop-cause
invariant-loop-cause g l = record {
  is : slice_get l.code.blocks l.n ≡ Some l.b;
  long : length l.words ≡ length l.fn.words;
  ahead : (args : List (Word ℕ)) → IsArgs l.code l.n args l.fn.words l.low
      → Ahead l.code [] (value l.n) l.b (fun_start l.n l.b args) l.words l.r
      (under l.memory.delta (g.P.Snapshot.base l.memory.snapshot)) (at l.memory.first.roots);
  block : l.r.block ≡ l.n;
  base : l.r.base ≡ l.low;
  below : take l.low l.words ≡ take l.low l.fn.words;
  kept : Kept (g.P.Snapshot.size l.fn.memory.snapshot)
      (under l.fn.memory.delta (g.P.Snapshot.base l.fn.memory.snapshot))
      (under l.memory.delta (g.P.Snapshot.base l.memory.snapshot))
      (at l.fn.memory.first.roots) (at l.memory.first.roots);
  size : g.P.Snapshot.size l.memory.snapshot ≡ g.P.Snapshot.size l.fn.memory.snapshot;
  group : g.P.Snapshot.group l.memory.snapshot ≡ g.P.Snapshot.group l.fn.memory.snapshot;
}

abbrev pub decreases-loop-cause : goal.decreases-loop-cause
decreases-loop-cause g l = length l.b.instrs - l.r.at

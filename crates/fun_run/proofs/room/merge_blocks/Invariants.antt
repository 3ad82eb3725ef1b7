-- Loops of merge_blocks: the merges so far, with those of the variables left, are those of all locations.
use Rattle.std.proofs.Common.{◌≡◌, ◌++◌, drop}
use Rattle.code_machine.specs.Joining.{merges_of}
use Rattle.fun_run.proofs.room.merge_blocks.Given as goal

abbrev pub invariant-loop-at : goal.invariant-loop-at
invariant-loop-at l = record {
  vars : l.vars ≡ l.code.vars;
  blocks : l.blocks.items ++ merges_of (drop l.at l.vars) ≡ merges_of l.vars;
}

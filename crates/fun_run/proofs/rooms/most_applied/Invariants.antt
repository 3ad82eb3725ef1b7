-- Loops of most_applied: the greater of the most so far and that of the instructions left is that of all.
use Rattle.std.proofs.Common.{◌≡◌, drop}
use Rattle.std.specs.Prelude.{max}
use Rattle.fun_run.specs.Rooms.{greatest_room}
use Rattle.fun_run.proofs.rooms.most_applied.Given as goal

abbrev pub invariant-loop-n : goal.invariant-loop-n
invariant-loop-n l = record {
  most : max l.most (greatest_room l.rooms (drop l.n l.instrs)) ≡ greatest_room l.rooms l.instrs;
}

-- Loops of rooms_of: there is a room for each block so far, and each serves its block.
use Rattle.std.proofs.Common.{◌≡◌, length}
use Rattle.fun_run.proofs.Limits.{Serve}
use Rattle.fun_run.proofs.rooms.rooms_of.Given as goal

abbrev pub invariant-loop-n : goal.invariant-loop-n
invariant-loop-n l = record {
  blocks : l.blocks ≡ l.code.blocks;
  many : length l.rooms.items ≡ l.n;
  each : Serve l.code l.rooms.items l.n;
}

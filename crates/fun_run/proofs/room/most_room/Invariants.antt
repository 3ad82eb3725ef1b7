-- Loops of most_room: the most is three at least and as great as each room before this one.
use Rattle.std.proofs.Common.{◌≡◌, ◌<◌, ◌≤◌, ℕ, Some}
use Rattle.std.specs.Prelude.{slice_get}
use Rattle.fun_run.proofs.room.most_room.Given as goal

abbrev pub invariant-loop-n : goal.invariant-loop-n
invariant-loop-n l = record {
  three : 3 ≤ l.most;
  each : (n room : ℕ) → n < l.n → slice_get l.rooms n ≡ Some room → room ≤ l.most;
}

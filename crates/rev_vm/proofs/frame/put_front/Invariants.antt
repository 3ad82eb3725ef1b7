-- Loops of put_front: the front has the arguments so far, and behind them the words are those at first.
use Rattle.std.proofs.Common.{◌≡◌, ◌≤◌, ◌++◌, length, take, drop}
use Rattle.rev_vm.proofs.frame.put_front.Given as goal

abbrev pub invariant-loop-at : goal.invariant-loop-at
invariant-loop-at l = record {
  front : l.words ≡ take l.at l.args ++ drop l.at l.initial.words;
  within : l.at ≤ length l.args;
}

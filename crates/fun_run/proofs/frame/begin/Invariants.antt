-- Loops of begin: the words up to here are those up to the first, and then zeros; there are as many as before.
use Rattle.std.proofs.Common.{◌≡◌, ◌-◌, ◌++◌, length, replicate, take}
use Rattle.fun_run.proofs.frame.begin.Given as goal

abbrev pub invariant-loop-at : goal.invariant-loop-at
invariant-loop-at l = record {
  length : length l.words ≡ length l.initial.words;
  words : take l.at l.words ≡ take l.first l.initial.words ++ replicate (l.at - l.first) 0;
}

-- Loops of start_words: the words so far, with those of the variables left, are those of all, and each has 64 bits.
use Rattle.std.proofs.Common.{◌≡◌, ◌++◌, drop}
use Rattle.rev_vm.specs.Opening.{AreShort, words_at_start}
use Rattle.rev_vm.proofs.opening.start_words.Given as goal

abbrev pub invariant-loop-at : goal.invariant-loop-at
invariant-loop-at l = record {
  vars : l.vars ≡ l.code.vars;
  words : l.words.items ++ words_at_start (drop l.at l.vars) ≡ words_at_start l.vars;
  short : AreShort l.words.items;
}

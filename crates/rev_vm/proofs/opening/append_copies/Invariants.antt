-- Loops of append_copies: the words are those at first with the copies so far, and each has 64 bits.
use Rattle.std.proofs.Common.{◌≡◌, ◌++◌, replicate}
use Rattle.rev_vm.specs.Opening.{AreShort}
use Rattle.rev_vm.proofs.opening.append_copies.Given as goal

abbrev pub invariant-loop-done : goal.invariant-loop-done
invariant-loop-done l = record {
  words : l.words.items ≡ l.initial.words.items ++ replicate l.done l.word;
  short : AreShort l.words.items;
}

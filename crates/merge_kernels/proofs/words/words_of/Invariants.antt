-- Loops of words_of: eight words, of which those so far are the words of the first numbers.
use Rattle.std.proofs.Common.{◌≡◌, length, take, map}
use Rattle.rev_num.specs.Words.{word_of}
use Rattle.merge_kernels.proofs.words.words_of.Given as goal

abbrev pub invariant-loop-k : goal.invariant-loop-k
invariant-loop-k l = (length l.words ≡ 8) × (take l.k l.words ≡ map word_of (take l.k l.ints))

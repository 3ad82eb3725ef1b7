-- Loops of eight_words: eight words, of which those so far are the words from this place on.
use Rattle.std.proofs.Common.{◌≡◌, length, take, drop}
use Rattle.version_map.proofs.eights.eight_words.Given as goal

abbrev pub invariant-loop-k : goal.invariant-loop-k
invariant-loop-k l = (length l.eight ≡ 8) × (take l.k l.eight ≡ take l.k (drop l.at l.words))

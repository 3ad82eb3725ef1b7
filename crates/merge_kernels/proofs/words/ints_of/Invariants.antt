-- Loops of ints_of: eight numbers, of which those of the pairs so far are the numbers of the first words.
use Rattle.std.proofs.Common.{◌≡◌, ◌*◌, length, take, map}
use Rattle.rev_num.specs.Words.{int_of}
use Rattle.merge_kernels.proofs.words.ints_of.Given as goal

abbrev pub invariant-loop-pair : goal.invariant-loop-pair
invariant-loop-pair l = (length l.ints ≡ 8) × (take (2 * l.pair) l.ints ≡ map int_of (take (2 * l.pair) l.words))

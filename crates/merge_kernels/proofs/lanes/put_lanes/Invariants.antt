-- Loops of put_lanes: the words before the place are as at first, and behind them stand those of the numbers so far.
use Rattle.std.proofs.Common.{◌≡◌, ◌+◌, ◌++◌, length, take, map}
use Rattle.rev_num.specs.Words.{word_of}
use Rattle.merge_kernels.proofs.lanes.put_lanes.Given as goal

abbrev pub invariant-loop-k : goal.invariant-loop-k
invariant-loop-k l = (length l.values ≡ length l.initial.values)
    × (take (l.at + l.k) l.values ≡ take l.at l.initial.values ++ map word_of (take l.k l.ints))

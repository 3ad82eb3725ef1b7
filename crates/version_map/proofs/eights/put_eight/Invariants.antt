-- Loops of put_eight: the words before the place are as at first, and behind them stand those so far of the eight.
use Rattle.std.proofs.Common.{◌≡◌, ◌+◌, ◌++◌, length, take, drop}
use Rattle.version_map.proofs.eights.put_eight.Given as goal

abbrev pub invariant-loop-k : goal.invariant-loop-k
invariant-loop-k l = (length l.values ≡ length l.initial.values)
    × (take (l.at + l.k) l.values ≡ take l.at l.initial.values ++ take l.k l.eight)
    × (drop (l.at + 8) l.values ≡ drop (l.at + 8) l.initial.values)

-- Loops of eight_values: eight words, of which those so far are the values of the locations from this place on.
use Rattle.std.proofs.Common.{◌≡◌, length, take, drop, map}
use Rattle.version_map.proofs.eights.eight_values.Given as goal

abbrev pub invariant-loop-k : goal.invariant-loop-k
invariant-loop-k l = (length l.eight ≡ 8) × (take l.k l.eight ≡ map (λ w. w.value) (take l.k (drop l.at l.written)))

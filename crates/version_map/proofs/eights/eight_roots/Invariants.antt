-- Loops of eight_roots: eight words, of which those so far are the roots of the written locations from this place on.
use Rattle.std.proofs.Common.{◌≡◌, length, take, drop, map}
use Rattle.version_map.proofs.eights.eight_roots.Given as goal

abbrev pub invariant-loop-k : goal.invariant-loop-k
invariant-loop-k l = (length l.eight ≡ 8) × (take l.k l.eight ≡ map (λ w. w.root) (take l.k (drop l.at l.written)))

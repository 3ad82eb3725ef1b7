-- Loops of same: whether the two lists of links are equal is whether what is left of them is.
use Rattle.std.proofs.Common.{◌≡◌, drop}
use Rattle.merge_kernels.specs.Equal.{equal_links}
use Rattle.merge_kernels.specs.Terms.{term_links}
use Rattle.merge_kernels.proofs.equal.+same.Given as goal

abbrev pub invariant-same_links-loop-at : goal.invariant-same_links-loop-at
invariant-same_links-loop-at l =
    equal_links (term_links l.a) (term_links l.b)
    ≡ equal_links (term_links (drop l.at l.a)) (term_links (drop l.at l.b))

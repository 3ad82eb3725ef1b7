-- The entries of a journal as pairs of a count and a number.
use Rattle.std.proofs.Common.{◌≡◌, ◌++◌, List, [], ◌∷◌, refl, ap}
use Rattle.hub_core.specs.declared.journal.Entry.{Entry}
use Rattle.hub_core.specs.Tally.{pairs}

pub pairs_more : (es : List Entry) (e : Entry) → pairs (es ++ e ∷ []) ≡ pairs es ++ (e.count, e.number) ∷ []
pairs_more [] e = refl
pairs_more (x ∷ es) e = ap (λ l. (x.count, x.number) ∷ l) (pairs_more es e)

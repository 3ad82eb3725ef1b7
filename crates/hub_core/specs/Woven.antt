-- What a close puts together of the entries and of the rounds by number.
--   pairs_from    the entries from a place on
--   rounds_at     the round of a number: joinee and forker
--   triples       rounds as child, joinee and forker
use Rattle.std.specs.Prelude.{ℕ, zero, suc, List, [], ◌∷◌, Option, Some, None}
use Rattle.hub_core.specs.declared.journal.Entry.{Entry}
use Rattle.hub_core.specs.declared.journal.Looped.{Looped}
use Rattle.hub_core.specs.declared.closing.Round.{Round}
use Rattle.hub_core.specs.Tally.{pairs}

abbrev pub pairs_from : ℕ → List Entry → List (ℕ × ℕ)
pairs_from zero es = pairs es
pairs_from (suc at) [] = []
pairs_from (suc at) (e ∷ es) = pairs_from at es

abbrev pub looped_pair : Option Looped → Option (ℕ × ℕ)
looped_pair None = None
looped_pair (Some r) = Some (r.joinee, r.forker)

abbrev pub rounds_at : List (Option Looped) → ℕ → Option (ℕ × ℕ)
rounds_at [] n = None
rounds_at (x ∷ xs) zero = looped_pair x
rounds_at (x ∷ xs) (suc n) = rounds_at xs n

abbrev pub triples : List Round → List (ℕ × ℕ × ℕ)
triples [] = []
triples (r ∷ rs) = (r.child, r.joinee, r.forker) ∷ triples rs

-- Loops of let_go: no place that is left has a record.
use Rattle.std.proofs.Common.{◌≡◌, ℕ, None}
use Rattle.std.specs.Vec.Iter.{into_iter_items, into_iter_len}
use Rattle.hub_core.specs.Tally.{record_at}
use Rattle.hub_core.proofs.parting.let_go.Given as goal

abbrev pub invariant-loop-held : goal.invariant-loop-held
invariant-loop-held g l = (j : ℕ) → record_at (into_iter_items l.rest) j ≡ None

abbrev pub decreases-loop-held : goal.decreases-loop-held
decreases-loop-held g l = into_iter_len l.rest

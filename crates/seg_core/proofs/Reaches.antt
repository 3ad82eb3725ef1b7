-- Every core that steps lead to is counted.
use Rattle.std.proofs.Common.{List, [], ◌∷◌, sym, subst}
use Rattle.seg_core.specs.Core.{Core, Counted}
use Rattle.seg_core.specs.Steps.{CoreStep, Runs, Reached, empty}
use Rattle.seg_core.proofs.Counts.{counted_keeps}
use Rattle.seg_core.proofs.Frees.{empty_counted}

pub runs_counted : (ss : List CoreStep) (k k' : Core) → Counted k → Runs k ss k' → Counted k'
runs_counted [] k k' r is = subst Counted (sym is) r
runs_counted (s ∷ ss) k k' r t = counted_keeps t.0 k' s (runs_counted ss k t.0 r t.1) t.2

pub reached_counted : (k : Core) → Reached k → Counted k
reached_counted k t = runs_counted t.3 (empty t.0 t.1 t.2) k (empty_counted t.0 t.1 t.2) t.4

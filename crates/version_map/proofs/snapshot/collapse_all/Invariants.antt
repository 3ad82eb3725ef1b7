-- Loops of collapse_all: what is seen stays the same, and while the depth does too nothing was taken in.
use Rattle.std.proofs.Common.{◌≡◌, ◌≤◌}
use Rattle.version_map.specs.Deltas.{locations}
use Rattle.version_map.specs.Overlay.{under, Agree}
use Rattle.version_map.proofs.snapshot.collapse_all.Given as goal

abbrev pub invariant-loop-last : goal.invariant-loop-last
invariant-loop-last g l = (g.P.Snapshot.size l.snapshot ≡ g.P.Snapshot.size l.initial.snapshot)
    × (g.P.Snapshot.group l.snapshot ≡ g.P.Snapshot.group l.initial.snapshot)
    × (locations l.into ≡ locations l.initial.into)
    × (g.P.Snapshot.depth l.snapshot ≤ g.P.Snapshot.depth l.initial.snapshot)
    × (g.P.Snapshot.depth l.snapshot ≡ g.P.Snapshot.depth l.initial.snapshot → l.into ≡ l.initial.into)
    × Agree (g.P.Snapshot.size l.initial.snapshot) (under l.into (g.P.Snapshot.base l.snapshot))
    (under l.initial.into (g.P.Snapshot.base l.initial.snapshot))

abbrev pub decreases-loop-last : goal.decreases-loop-last
decreases-loop-last g l = g.P.Snapshot.depth l.snapshot

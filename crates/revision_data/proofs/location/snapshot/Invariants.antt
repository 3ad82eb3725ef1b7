-- Loops of snapshot: the child's locations so far are fresh, with what the forker sees at the first of its own.
use Rattle.std.proofs.Common.{◌≡◌, take, map}
use Rattle.revision_calculus.specs.State.{fresh, view}
use Rattle.revision_data.proofs.location.snapshot.Given as goal

abbrev pub invariant-loop-location : goal.invariant-loop-location
invariant-loop-location l = l.child.items ≡ fresh (map view (take l.location-index l.locations))

-- Loops of copy_locations: the copies so far are the first of the locations.
use Rattle.std.proofs.Common.{◌≡◌, take}
use Rattle.revision_data.proofs.location.copy_locations.Given as goal

abbrev pub invariant-loop-location : goal.invariant-loop-location
invariant-loop-location l = l.copy.items ≡ take l.location-index l.locations

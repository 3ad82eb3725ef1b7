-- Loops of told_locations: the locations so far, with those that the writes left tell, are all locations.
use Rattle.std.proofs.Common.{◌≡◌, ◌++◌, ◌-◌}
use Rattle.stated_parts.specs.Ends.{told_from}
use Rattle.stated_parts.proofs.ends.told_locations.Given as goal

abbrev pub invariant-loop-number : goal.invariant-loop-number
invariant-loop-number l =
    l.locations.items ++ told_from l.number (l.count - l.number) l.others ≡ told_from 0 l.count l.written

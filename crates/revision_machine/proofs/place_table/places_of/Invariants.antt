-- Loops of places_of: the table has the places of the revisions so far.
use Rattle.std.proofs.Common.{take}
use Rattle.revision_machine.specs.PathIndex.{IsIndexed}
use Rattle.revision_machine.specs.RevisionList.{paths}
use Rattle.revision_machine.proofs.place_table.places_of.Given as goal

abbrev pub invariant-loop-i : goal.invariant-loop-i
invariant-loop-i g l = IsIndexed l.places.map (paths (take l.i l.list))

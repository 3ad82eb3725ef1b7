-- The invariant of `places_of`.
use Rattle.std.proofs.Common.{take}
use Rattle.revision_machine.specs.PathIndex.{IsIndexed}
use Rattle.rev_record.specs.Entries.{paths}
use Rattle.rev_record.proofs.memo.places_of.Given as goal

abbrev pub invariant-loop-place : goal.invariant-loop-place
invariant-loop-place l = IsIndexed l.places (paths (take l.place l.entries))

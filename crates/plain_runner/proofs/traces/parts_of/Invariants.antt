-- Loops of parts_of: the parts so far and those of the revisions left are all parts, in whatever order.
use Rattle.std.proofs.Common.{◌++◌, length}
use Rattle.std.specs.List.Sorted.{IsPermutation}
use Rattle.plain_runner.specs.Made.{parts_by}
use Rattle.plain_runner.proofs.traces.parts_of.Given as goal

abbrev pub invariant-loop-revision : goal.invariant-loop-revision
invariant-loop-revision l =
    IsPermutation (parts_by l.places l.initial.rest.items) (l.parts.items ++ parts_by l.places l.rest.items)

abbrev pub decreases-loop-revision : goal.decreases-loop-revision
decreases-loop-revision l = length l.rest.items

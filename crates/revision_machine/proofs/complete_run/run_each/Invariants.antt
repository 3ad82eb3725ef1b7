-- Loops of run_each: the places are those of distinct paths, and one has moved or those passed cannot step.
use Rattle.std.proofs.Common.{◌≤◌, length}
use Rattle.revision_machine.specs.Machine.{Live}
use Rattle.revision_machine.specs.Laws.{IsDistinct}
use Rattle.revision_machine.specs.Rules.{machine_of, IsWithin}
use Rattle.revision_machine.specs.PathIndex.{IsIndexed}
use Rattle.revision_machine.specs.RevisionList.{paths, globe}
use Rattle.revision_machine.specs.Progress.{PassSoFar}
use Rattle.revision_machine.proofs.complete_run.run_each.Given as goal

abbrev pub invariant-loop-place : goal.invariant-loop-place
invariant-loop-place g l = record {
  distinct : IsDistinct (paths l.list.items);
  indexed : IsIndexed l.places.map (paths l.list.items);
  reached : IsWithin (g.L.Language.rules l.language) (Live (globe l.list.items));
  longer : length l.initial.list.items ≤ length l.list.items;
  so_far : PassSoFar (machine_of (g.L.Language.rules l.language)) l.moved l.initial.list.items l.list.items l.place;
}

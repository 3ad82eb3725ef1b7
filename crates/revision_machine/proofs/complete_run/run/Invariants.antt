-- Loops of run: the places are those of distinct paths, a run from main leads here, and less is left each time.
use Rattle.std.proofs.Common.{List}
use Rattle.rev_num.specs.Path.{Path}
use Rattle.revision_machine.specs.Machine.{Live, start, Runs}
use Rattle.revision_machine.specs.Laws.{IsDistinct}
use Rattle.revision_machine.specs.Rules.{machine_of}
use Rattle.revision_machine.specs.PathIndex.{IsIndexed}
use Rattle.revision_machine.specs.RevisionList.{paths, globe}
use Rattle.revision_machine.proofs.Runs.{left}
use Rattle.revision_machine.proofs.complete_run.run.Given as goal

abbrev pub invariant-loop-places : goal.invariant-loop-places
invariant-loop-places g l = record {
  distinct : IsDistinct (paths l.list.items);
  indexed : IsIndexed l.places.map (paths l.list.items);
  runs : (rs : List Path)
      × Runs (machine_of (g.L.Language.rules l.language)) (start (machine_of (g.L.Language.rules l.language)) l.fn.main)
      rs (Live (globe l.list.items));
}

abbrev pub decreases-loop-places : goal.decreases-loop-places
decreases-loop-places g l =
    left (machine_of (g.L.Language.rules l.language)) (g.L.Language.rules l.language).weight l.list.items

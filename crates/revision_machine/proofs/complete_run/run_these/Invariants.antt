-- Loops of run_these: steps lead from the list at first to this one, which has the places to be tried.
use Rattle.std.proofs.Common.{◌+◌, ◌*◌, ◌<◌, ◌≤◌, length, vec_len}
use Rattle.std.specs.List.{All}
use Rattle.revision_machine.specs.Machine.{Live}
use Rattle.revision_machine.specs.Laws.{IsDistinct}
use Rattle.revision_machine.specs.Rules.{machine_of, IsWithin}
use Rattle.revision_machine.specs.PathIndex.{IsIndexed}
use Rattle.revision_machine.specs.RevisionList.{paths, globe}
use Rattle.revision_machine.specs.Progress.{Goes}
use Rattle.revision_machine.proofs.Runs.{left}
use Rattle.revision_machine.proofs.complete_run.run_these.Given as goal

abbrev pub invariant-loop-place : goal.invariant-loop-place
invariant-loop-place g l = record {
  distinct : IsDistinct (paths l.list.items);
  indexed : IsIndexed l.places.map (paths l.list.items);
  reached : IsWithin (g.L.Language.rules l.language) (Live (globe l.list.items));
  todo : All (λ k. k < length l.list.items) l.todo.items;
  goes : Goes (machine_of (g.L.Language.rules l.language)) 0 l.initial.list.items l.list.items;
  longer : length l.initial.list.items ≤ length l.list.items;
}

abbrev pub decreases-loop-place : goal.decreases-loop-place
decreases-loop-place g l =
    2 * left (machine_of (g.L.Language.rules l.language)) (g.L.Language.rules l.language).weight l.list.items
    + vec_len l.todo

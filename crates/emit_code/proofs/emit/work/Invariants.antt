-- Loops of work: what all tasks come to behind the code so far is the same at each turn, and is short enough.
use Rattle.std.proofs.Common.{◌≡◌, ◌<◌, ◌^◌, length}
use Rattle.emit_code.specs.Naming.{numbers_of}
use Rattle.emit_code.specs.Work.{behind, left}
use Rattle.emit_code.proofs.emit.work.Given as goal

abbrev pub invariant-loop-task : goal.invariant-loop-task
invariant-loop-task l = record {
  comes : behind (numbers_of l.known.numbers.now) l.known.scope.now l.tasks.items l.code.items
      ≡ behind (numbers_of l.known.numbers.now) l.known.scope.now l.initial.tasks.items l.initial.code.items;
  few : length (behind (numbers_of l.known.numbers.now) l.known.scope.now l.tasks.items l.code.items) < 2 ^ 32;
}

abbrev pub decreases-loop-task : goal.decreases-loop-task
decreases-loop-task l = left l.tasks.items

-- Loops of value: what waits, what is held and what is next come to the value, and weigh no more than is left.
use Rattle.std.proofs.Common.{◌≡◌, ◌+◌, ◌*◌, ◌≤◌, length}
use Rattle.rev_syntax.specs.View.{expression, expressions}
use Rattle.rev_syntax.specs.Small.{expression_count, expressions_count}
use Rattle.typed_programs.specs.Evaluation as meant
use Rattle.typed_programs.specs.Weights.{weight_within, weights_before}
use Rattle.rev_evaluator.specs.Declarations.{declared_by}
use Rattle.rev_evaluator.specs.Environment.{reads}
use Rattle.rev_evaluator.specs.Work.{comes_to, kept, next_size, next_weight, remains, waiting, waiting_weight}
use Rattle.rev_evaluator.proofs.Counts.{bodies_before, bodies_to}
use Rattle.rev_evaluator.proofs.value.+value.Given as goal

abbrev pub decreases-take_turns : goal.decreases-take_turns
decreases-take_turns g l =
    bodies_before (declared_by l.scope.now.expanded.now) l.scope.now.within + 8 * expression_count (expression l.e.now)

abbrev pub decreases-called : goal.decreases-called
decreases-called g l =
    bodies_before (declared_by l.scope.now.expanded.now) l.scope.now.within
    + (8 * expressions_count (expressions l.call.rest.now) + 4)

abbrev pub decreases-given : goal.decreases-given
decreases-given g l =
    bodies_before (declared_by l.scope.now.expanded.now) l.scope.now.within
    + (8 * expressions_count (expressions l.more.now) + 3)

abbrev pub decreases-applied : goal.decreases-applied
decreases-applied g l =
    bodies_before (declared_by l.scope.now.expanded.now) l.scope.now.within
    + (8 * expressions_count (expressions l.args.now) + 2)

abbrev pub decreases-body_value : goal.decreases-body_value
decreases-body_value g l = bodies_to (declared_by l.scope.now.expanded.now) l.fun + 1

abbrev pub invariant-take_turns-loop-next : goal.invariant-take_turns-loop-next
invariant-take_turns-loop-next g l =
    let es = declared_by l.scope.expanded.now in
    let env = reads g.E.Environment.env l.scope.reads.now in
    let ws = weights_before es l.scope.within in
    (l.depth ≤ 64) × (l.held ≤ 64)
    × (comes_to es l.scope.within env (waiting l.pending l.depth) (kept l.values l.held) l.next
    ≡ meant.value_within es l.scope.within env (expression l.e))
    × (remains (waiting l.pending l.depth) + next_size l.next ≤ 3 * expression_count (expression l.e))
    × (length l.pending ≡ 64)
    × (l.initial.left + (waiting_weight ws (waiting l.pending l.depth) + next_weight ws l.next)
    ≤ l.left + weight_within es l.scope.within (expression l.e))

abbrev pub decreases-take_turns-loop-next : goal.decreases-take_turns-loop-next
decreases-take_turns-loop-next g l = remains (waiting l.pending l.depth) + next_size l.next

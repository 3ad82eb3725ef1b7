-- Answers of pending_cost: a left operand that awaits a link costs 1, and one without a link costs nothing.
use Rattle.std.proofs.Common.{◌∙◌, ap, sym}
use Rattle.rev_evaluator.specs.Work.{pending_cost}
use Rattle.rev_evaluator.proofs.Works.{cost_none, cost_some}
use Rattle.rev_evaluator.proofs.work.pending_cost.Goals as goal

pub returns-then-is_empty : goal.returns-then-is_empty
returns-then-is_empty c =
    cost_none c.in-Left.rest.now (sym c.is_empty.ensures ∙ c.if-is_empty.true) ∙ ap pending_cost (sym c.in-Left.is)

pub returns-else-is_empty : goal.returns-else-is_empty
returns-else-is_empty c =
    cost_some c.in-Left.rest.now (sym c.is_empty.ensures ∙ c.if-is_empty.false) ∙ ap pending_cost (sym c.in-Left.is)

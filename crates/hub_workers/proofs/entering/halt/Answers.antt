-- Answers of halt: the seat has seen the halt, and what a halted seat had need not be handed in.
use Rattle.hub_workers.proofs.Handed.{unless_halted}
use Rattle.hub_workers.proofs.entering.halt.Goals as goal

pub returns-clause-only : goal.returns-clause-only
returns-clause-only g c = unless_halted _ _ c.halt.ensures.halted

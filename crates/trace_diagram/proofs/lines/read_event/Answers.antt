-- Answers of read_event: without a path and a line behind its word the line is neither a fork nor a join.
use Rattle.trace_diagram.proofs.LineForms.{no_fork, no_join}
use Rattle.trace_diagram.proofs.lines.read_event.Goals as goal

pub returns-in-None : goal.returns-in-None
returns-in-None c = no_fork _ _ c.in-Some.ensures (rw c.in-None.is at c.in_ok-path.ensures)

pub returns-in-None-2 : goal.returns-in-None-2
returns-in-None-2 c = no_join _ _ c.in-Some-behind.ensures (rw c.in-None-2.is at c.in_ok-path-2.ensures)

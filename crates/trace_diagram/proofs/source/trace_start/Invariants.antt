-- Loops of trace_start: no line before this place begins a trace.
use Rattle.trace_diagram.proofs.Dividing.{NoneBefore}
use Rattle.trace_diagram.proofs.source.trace_start.Given as goal

abbrev pub invariant-loop-at : goal.invariant-loop-at
invariant-loop-at l = NoneBefore l.bytes l.at

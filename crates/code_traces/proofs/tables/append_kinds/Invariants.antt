-- Loops of append_kinds: the list is what it was, followed by the kind of the variable for each cell so far.
use Rattle.std.proofs.Common.{◌≡◌, ◌++◌, replicate}
use Rattle.code_traces.proofs.tables.append_kinds.Given as goal

abbrev pub invariant-loop-done : goal.invariant-loop-done
invariant-loop-done l = l.list.items ≡ l.initial.list.items ++ replicate l.done l.variable.kind

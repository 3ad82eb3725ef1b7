-- Loops of are_printable: whether all bytes are printable is whether those left are.
use Rattle.std.proofs.Common.{◌≡◌, drop}
use Rattle.std.specs.List.{list_all}
use Rattle.trace_diagram.specs.Lines.{is_printable}
use Rattle.trace_diagram.proofs.lines.are_printable.Given as goal

abbrev pub invariant-loop-b : goal.invariant-loop-b
invariant-loop-b l = list_all is_printable l.bytes ≡ list_all is_printable (drop l.b-index l.bytes)

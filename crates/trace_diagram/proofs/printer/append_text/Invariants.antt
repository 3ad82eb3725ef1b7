-- Loops of append_text: the lines so far, with those of the rest, are those of the whole text.
use Rattle.std.proofs.Common.{◌≡◌, ◌++◌, length, map}
use Rattle.std.specs.List.{flat_map}
use Rattle.trace_diagram.specs.Lines.{quoted}
use Rattle.trace_diagram.specs.Traces.{ended, text_lines}
use Rattle.trace_diagram.proofs.printer.append_text.Given as goal

abbrev pub invariant-loop-line : goal.invariant-loop-line
invariant-loop-line l =
    l.out.items ++ flat_map ended (map quoted (text_lines l.rest))
    ≡ l.initial.out.items ++ flat_map ended (map quoted (text_lines l.text))

abbrev pub decreases-loop-line : goal.decreases-loop-line
decreases-loop-line l = length l.rest

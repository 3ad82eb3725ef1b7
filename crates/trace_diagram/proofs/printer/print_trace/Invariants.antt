-- Loops of print_trace: the text is the first line and the lines of the parts so far.
use Rattle.std.proofs.Common.{◌≡◌, ◌++◌, take}
use Rattle.std.specs.List.{flat_map}
use Rattle.trace_diagram.specs.Traces.{ended, first_line, part_lines}
use Rattle.trace_diagram.proofs.printer.print_trace.Given as goal

abbrev pub invariant-loop-part : goal.invariant-loop-part
invariant-loop-part l =
    l.text.items ≡ ended first_line ++ flat_map ended (flat_map part_lines (take l.part-index l.trace.parts))

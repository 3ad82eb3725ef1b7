-- Loops of append_changes: the text is that at first with the lines of the writes so far.
use Rattle.std.proofs.Common.{◌≡◌, ◌++◌, map, take}
use Rattle.std.specs.List.{flat_map}
use Rattle.trace_diagram.specs.Lines.{change_text}
use Rattle.trace_diagram.specs.Traces.{ended}
use Rattle.trace_diagram.proofs.printer.append_changes.Given as goal

abbrev pub invariant-loop-change : goal.invariant-loop-change
invariant-loop-change l =
    l.text.items ≡ l.initial.text.items ++ flat_map ended (map change_text (take l.change-index l.changes))

-- Loops of append_values: the text is that at first with the lines of the values so far.
use Rattle.std.proofs.Common.{◌≡◌, ◌++◌, take}
use Rattle.std.specs.List.{flat_map}
use Rattle.rev_report.specs.Outcome.{value_line}
use Rattle.rev_report.proofs.outcome.append_values.Given as goal

abbrev pub invariant-loop-shown : goal.invariant-loop-shown
invariant-loop-shown l = l.text.items ≡ l.initial.text.items ++ flat_map value_line (take l.shown-index l.values)

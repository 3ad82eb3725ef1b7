-- Loops of append_behind_commas: the text is that at first with the numbers so far, each behind a comma.
use Rattle.std.proofs.Common.{◌≡◌, ◌++◌, take}
use Rattle.std.specs.List.{flat_map}
use Rattle.rev_report.specs.Modes.{behind_comma}
use Rattle.rev_report.proofs.order.append_behind_commas.Given as goal

abbrev pub invariant-loop-number : goal.invariant-loop-number
invariant-loop-number l =
    l.text.items ≡ l.initial.text.items ++ flat_map behind_comma (take l.number-index l.numbers)

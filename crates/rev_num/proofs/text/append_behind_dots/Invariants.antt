-- Loops of append_behind_dots: the text is that at first with the numbers so far, each behind a dot.
use Rattle.std.proofs.Common.{◌≡◌, ◌++◌, take}
use Rattle.std.specs.List.{flat_map}
use Rattle.rev_num.specs.Text.{behind_dot}
use Rattle.rev_num.proofs.text.append_behind_dots.Given as goal

abbrev pub invariant-loop-number : goal.invariant-loop-number
invariant-loop-number l =
    l.text.items ≡ l.initial.text.items ++ flat_map behind_dot (take l.number-index l.numbers)

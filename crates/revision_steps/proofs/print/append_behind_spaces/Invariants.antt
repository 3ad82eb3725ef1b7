-- Loops of append_behind_spaces: the line is that at first with the texts so far, each behind a space.
use Rattle.std.proofs.Common.{◌≡◌, ◌++◌, take, map}
use Rattle.std.specs.List.{flat_map}
use Rattle.revision_steps.specs.Texts.{behind_space}
use Rattle.revision_steps.proofs.print.append_behind_spaces.Given as goal

abbrev pub invariant-loop-text : goal.invariant-loop-text
invariant-loop-text l =
    l.line ≡ l.initial.line ++ flat_map behind_space (map (λ t. t.items) (take l.text-index l.texts))

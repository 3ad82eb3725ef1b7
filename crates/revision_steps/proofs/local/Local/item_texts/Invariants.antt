-- Loops of Local::item_texts: the texts so far in front of what the items left give are what all items give.
use Rattle.std.proofs.Common.{◌≡◌, drop, map}
use Rattle.rev_syntax.specs.View.{print_item}
use Rattle.revision_calculus.specs.Step.{item_texts}
use Rattle.revision_data.specs.Reading.{prefixed}
use Rattle.revision_state.specs.Views.{given}
use Rattle.revision_steps.proofs.local.Local.item_texts.Given as goal

abbrev pub invariant-loop-item : goal.invariant-loop-item
invariant-loop-item l =
    prefixed (map (λ t. t.items) l.texts.items)
    (item_texts (given l.setting) l.self (map print_item (drop l.item-index l.items)))
    ≡ item_texts (given l.setting) l.self (map print_item l.items)

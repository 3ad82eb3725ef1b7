-- Loops of more_items: the items so far, with those that the tokens left give, are all of the list.
use Rattle.std.proofs.Common.{◌≡◌, ◌-◌, map}
use Rattle.rev_expressions.specs.Lists.{more_listed}
use Rattle.rev_expressions.specs.Statements as st
use Rattle.rev_syntax.specs.View as view
use Rattle.rev_parse.proofs.statement.more_items.Given as goal

-- what is still to be read behind the items so far
abbrev pub invariant-loop-turn : goal.invariant-loop-turn
invariant-loop-turn l =
    more_listed l.source.bytes.now l.levels (st.item l.source.bytes.now) l._turn-end
    (map view.print_item l.initial.found.items) l.initial.cursor.rest.now
    ≡ more_listed l.source.bytes.now l.levels (st.item l.source.bytes.now) (l._turn-end - l._turn)
    (map view.print_item l.found.items) l.cursor.rest.now

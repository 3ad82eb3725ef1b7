-- Loops of stmt: the statements or tests so far, with those that the tokens left give, are all of them.
use Rattle.std.proofs.Common.{◌≡◌, [], map, ◌+◌, ◌-◌, ◌*◌}
use Rattle.rev_expressions.specs.Lists.{more_of}
use Rattle.rev_expressions.specs.Statements as st
use Rattle.rev_parse.specs.Parts.{more_parts}
use Rattle.rev_syntax.specs.View as view
use Rattle.rev_parse.proofs.statement.+stmt.Given as goal

abbrev pub decreases-block : goal.decreases-block
decreases-block l = 20 * l.levels + 1

abbrev pub decreases-arm : goal.decreases-arm
decreases-arm l = 20 * l.levels + 2

abbrev pub decreases-while_form : goal.decreases-while_form
decreases-while_form l = 20 * l.levels + 2

abbrev pub decreases-else_parts : goal.decreases-else_parts
decreases-else_parts l = 20 * l.levels + 3

abbrev pub decreases-if_form : goal.decreases-if_form
decreases-if_form l = 20 * l.levels + 4

abbrev pub decreases-form_at : goal.decreases-form_at
decreases-form_at l = 20 * l.levels + 5

abbrev pub decreases-statement : goal.decreases-statement
decreases-statement l = 20 * l.levels + 6

abbrev pub decreases-statements : goal.decreases-statements
decreases-statements l = 20 * l.levels + 7

abbrev pub decreases-body : goal.decreases-body
decreases-body l = 20 * l.levels + 8

-- what is still to be read behind the statements so far
abbrev pub invariant-statements-loop-turn : goal.invariant-statements-loop-turn
invariant-statements-loop-turn l =
    more_of l.source.bytes.now l.levels (st.statement l.source.bytes.now) l._turn-end [] l.initial.cursor.rest.now
    ≡ more_of l.source.bytes.now l.levels (st.statement l.source.bytes.now) (l._turn-end - l._turn)
    (map view.stmt l.found.items) l.cursor.rest.now

-- what is still to be read behind the tests so far
abbrev pub invariant-else_parts-loop-turn : goal.invariant-else_parts-loop-turn
invariant-else_parts-loop-turn l =
    more_parts l.source.bytes.now l.levels l._turn-end (map st.Test (map view.arm l.initial.arms.items))
    l.initial.cursor.rest.now
    ≡ more_parts l.source.bytes.now l.levels (l._turn-end - l._turn) (map st.Test (map view.arm l.arms.items))
    l.cursor.rest.now

-- Loops of more_params: the parameters so far, with those that the tokens left give, are all of the list.
use Rattle.std.proofs.Common.{◌≡◌, ◌-◌}
use Rattle.rev_expressions.specs.Declarations as spec
use Rattle.rev_expressions.specs.Lists.{more_listed}
use Rattle.rev_parse.specs.Pieces as pieces
use Rattle.rev_parse.proofs.declaration.more_params.Given as goal

abbrev pub invariant-loop-turn : goal.invariant-loop-turn
invariant-loop-turn l =
    more_listed l.source.bytes.now l.levels (spec.param l.source.bytes.now) l._turn-end
    (pieces.parameters l.initial.params.items) l.initial.cursor.rest.now
    ≡ more_listed l.source.bytes.now l.levels (spec.param l.source.bytes.now) (l._turn-end - l._turn)
    (pieces.parameters l.params.items) l.cursor.rest.now

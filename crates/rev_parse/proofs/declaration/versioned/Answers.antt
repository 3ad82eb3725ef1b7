-- Answers of versioned: behind the variable the tokens still have no negative number.
use Rattle.rev_expressions.specs.Declarations as spec
use Rattle.rev_parse.specs.Pieces as pieces
use Rattle.rev_parse.proofs.Naturals.{natural_rest}
use Rattle.rev_parse.proofs.declaration.versioned.Goals as goal

pub first_value-requires : goal.first_value-requires
first_value-requires c =
    natural_rest c.args.source.now.bytes.now c.args.levels (spec.variable c.args.source.now.bytes.now)
    c.args.cursor.now.rest.now c.variable.new.cursor.rest.now (pieces.typed c.in_ok-variable.variable)
    c.in_ok-variable.ensures c.requires

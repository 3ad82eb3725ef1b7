-- Answers of cumulative: behind the variable and its merge's name the tokens still have no negative number.
use Rattle.rev_syntax.specs.declared.token.Fixed.TheVariants as s
use Rattle.rev_expressions.specs.Declarations as spec
use Rattle.rev_expressions.specs.Grammar as g
use Rattle.rev_expressions.specs.Classes as class
use Rattle.rev_parse.specs.Pieces as pieces
use Rattle.rev_syntax.specs.View as view
use Rattle.rev_parse.proofs.Naturals.{natural_rest, natural_taken}
use Rattle.rev_parse.proofs.declaration.cumulative.Goals as goal

pub first_value-requires : goal.first_value-requires
first_value-requires c =
    let behind_variable =
    natural_rest c.args.source.now.bytes.now c.args.levels (spec.variable c.args.source.now.bytes.now)
    c.args.cursor.now.rest.now c.variable.new.cursor.rest.now (pieces.typed c.in_ok-variable.variable)
    c.in_ok-variable.ensures c.requires in
    let behind_by =
    natural_taken (class.fixed s.By) (λ t. tt) c.variable.new.cursor.rest.now c.expect.new.self.rest.now
    c.in_ok-expect.field-0 c.in_ok-expect.ensures behind_variable in
    natural_rest c.args.source.now.bytes.now c.args.levels (g.name c.args.source.now.bytes.now)
    c.expect.new.self.rest.now c.name.new.cursor.rest.now (view.placed_name c.in_ok-by.by) c.in_ok-by.ensures behind_by

-- Answers of more_params: a comma with a parameter behind it adds one to the list, and its refusal refuses the list.
use Rattle.std.proofs.Common.{◌≡◌, ◌+◌, ◌-◌, true, arith, rules}
use Rattle.std.proofs.lemmas.Grind.{common_steps}
use Rattle.std.proofs.lemmas.List.{map-append}
use Rattle.rev_expressions.specs.Reader.{is_next}
use Rattle.rev_syntax.specs.declared.token.Fixed.TheVariants as s
use Rattle.rev_expressions.specs.Declarations as spec
use Rattle.rev_expressions.specs.Grammar.{alphabet}
use Rattle.rev_expressions.proofs.Lists.{comma_go}
use Rattle.rev_parse.specs.Pieces as pieces
use Rattle.rev_parse.proofs.declaration.more_params.Goals as goal
use Rattle.rev_expressions.specs.Classes as class

pub loop-turn-preserved : goal.loop-turn-preserved
loop-turn-preserved c =
    let e : is_next alphabet (class.fixed s.Comma) c.loop-turn.cursor.rest.now ≡ true = search rules in
    let h = comma_go c.args.source.now.bytes.now c.args.levels (spec.param c.args.source.now.bytes.now)
    (c.left-turn-end.result - c.loop-turn._turn) (c.left-turn-end.result - (c.loop-turn._turn + 1))
    (pieces.parameters c.loop-turn.params.items) c.loop-turn.cursor.rest.now (omega arith) e in
    grind (arith, common_steps, map-append, h)

pub returns-in_err-param : goal.returns-in_err-param
returns-in_err-param c =
    let e : is_next alphabet (class.fixed s.Comma) c.loop-turn.cursor.rest.now ≡ true = search rules in
    let h = comma_go c.args.source.now.bytes.now c.args.levels (spec.param c.args.source.now.bytes.now)
    (c.left-turn-end.result - c.loop-turn._turn) (c.left-turn-end.result - (c.loop-turn._turn + 1))
    (pieces.parameters c.loop-turn.params.items) c.loop-turn.cursor.rest.now (omega arith) e in
    grind (arith, common_steps, h)

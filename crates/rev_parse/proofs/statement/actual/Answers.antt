-- Answers of actual: without an open parenthesis there is no list, and behind one are arguments, a level deeper.
use Rattle.std.proofs.Common.{◌≡◌, ◌∙◌, true, false, arith, rules}
use Rattle.std.proofs.lemmas.Grind.{common_steps}
use Rattle.rev_expressions.specs.Reader.{is_next}
use Rattle.rev_syntax.specs.declared.token.Fixed.TheVariants as s
use Rattle.rev_expressions.specs.Grammar as spec
use Rattle.rev_parse.proofs.StatementRules as rule
use Rattle.rev_parse.proofs.statement.actual.Goals as goal
use Rattle.rev_expressions.specs.Classes as class

pub returns-then-not-is_at : goal.returns-then-not-is_at
returns-then-not-is_at c =
    let e : is_next spec.alphabet (class.fixed s.OpenParen) c.args.cursor.now.rest.now ≡ false = search rules in
    let h = rule.actual_no c.args.source.now.bytes.now c.args.levels c.args.cursor.now.rest.now e in
    grind (arith, common_steps, h)

pub returns : goal.returns
returns c =
    let e : is_next spec.alphabet (class.fixed s.OpenParen) c.args.cursor.now.rest.now ≡ true = search rules in
    let h = rule.actual_yes c.args.source.now.bytes.now c.args.levels c.args.cursor.now.rest.now e
    ∙ rule.arguments_only c.args.source.now.bytes.now c.args.levels c.in_ok-inner.inner c.args.cursor.now.rest.now
    c.in_ok-inner.ensures in
    grind (arith, common_steps, h)

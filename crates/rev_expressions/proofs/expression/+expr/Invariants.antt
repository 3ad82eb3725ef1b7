-- Loops of expr: the links or arguments so far, with those that the tokens left give, are all that there are.
use Rattle.std.proofs.Common.{◌≡◌, [], map, ℕ, ◌+◌, ◌-◌, ◌*◌}
use Rattle.rev_expressions.specs.declared.expression.Rank.{Rank}
use Rattle.rev_expressions.specs.declared.expression.Rank.TheVariants as r
use Rattle.rev_expressions.specs.Grammar as spec
use Rattle.rev_expressions.specs.Lists.{more_listed}
use Rattle.rev_syntax.specs.View as view
use Rattle.rev_expressions.proofs.Turns.{more_links}
use Rattle.rev_expressions.proofs.expression.+expr.Given as goal

-- how loosely a rank binds, with room for the calls in between
abbrev pub looseness : Rank → ℕ
looseness r.Or = 20
looseness r.And = 15
looseness r.Compare = 10
looseness r.Sum = 5
looseness r.Product = 0

abbrev pub decreases-arguments : goal.decreases-arguments
decreases-arguments l = 40 * l.levels + 33

abbrev pub decreases-some_arguments : goal.decreases-some_arguments
decreases-some_arguments l = 40 * l.levels + 32

abbrev pub decreases-more_arguments : goal.decreases-more_arguments
decreases-more_arguments l = 40 * l.levels + 31

abbrev pub decreases-bracketed : goal.decreases-bracketed
decreases-bracketed l = 40 * l.levels + 1

abbrev pub decreases-expr_before : goal.decreases-expr_before
decreases-expr_before l = 40 * l.levels + 30

abbrev pub decreases-parenthesized : goal.decreases-parenthesized
decreases-parenthesized l = 40 * l.levels + 1

abbrev pub decreases-pick : goal.decreases-pick
decreases-pick l = 40 * l.levels + 1

abbrev pub decreases-prefixed : goal.decreases-prefixed
decreases-prefixed l = 40 * l.levels + 1

abbrev pub decreases-indexed : goal.decreases-indexed
decreases-indexed l = 40 * l.levels

abbrev pub decreases-called : goal.decreases-called
decreases-called l = 40 * l.levels

abbrev pub decreases-named : goal.decreases-named
decreases-named l = 40 * l.levels + 1

abbrev pub decreases-primary : goal.decreases-primary
decreases-primary l = 40 * l.levels + 2

abbrev pub decreases-unary : goal.decreases-unary
decreases-unary l = 40 * l.levels + 3

abbrev pub decreases-ranked : goal.decreases-ranked
decreases-ranked l = 40 * l.levels + looseness l.rank + 9

abbrev pub decreases-chains : goal.decreases-chains
decreases-chains l = 40 * l.levels + looseness l.rank + 8

abbrev pub decreases-chain : goal.decreases-chain
decreases-chain l = 40 * l.levels + looseness l.rank + 7

abbrev pub decreases-links : goal.decreases-links
decreases-links l = 40 * l.levels + looseness l.rank + 6

abbrev pub decreases-operand : goal.decreases-operand
decreases-operand l = 40 * l.levels + looseness l.rank + 5

abbrev pub invariant-links-loop-turn : goal.invariant-links-loop-turn
invariant-links-loop-turn l =
    more_links l.source.bytes.now l.levels l.rank l._turn-end [] l.initial.cursor.rest.now
    ≡ more_links l.source.bytes.now l.levels l.rank (l._turn-end - l._turn) (map view.link l.found.items)
    l.cursor.rest.now

abbrev pub invariant-more_arguments-loop-turn : goal.invariant-more_arguments-loop-turn
invariant-more_arguments-loop-turn l =
    more_listed l.source.bytes.now l.levels (spec.expr l.source.bytes.now) l._turn-end
    (map view.expression l.initial.args.items) l.initial.cursor.rest.now
    ≡ more_listed l.source.bytes.now l.levels (spec.expr l.source.bytes.now) (l._turn-end - l._turn)
    (map view.expression l.args.items) l.cursor.rest.now

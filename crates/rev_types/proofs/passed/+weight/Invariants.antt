-- Loops of weight: the sum so far, with the weights of the arguments or links left, is the weight of all.
use Rattle.std.proofs.Common.{◌≡◌, drop}
use Rattle.rev_syntax.specs.View.{expressions, links}
use Rattle.typed_programs.specs.Program as program
use Rattle.rev_types.proofs.passed.+weight.Given as goal

abbrev pub invariant-args_weight-loop-arg : goal.invariant-args_weight-loop-arg
invariant-args_weight-loop-arg l =
    program.expressions_weight l.weights l.sum (expressions (drop l.arg-index l.args))
    ≡ program.expressions_weight l.weights l.initial.sum (expressions l.args)

abbrev pub invariant-links_weight-loop-link : goal.invariant-links_weight-loop-link
invariant-links_weight-loop-link l =
    program.links_weight l.weights l.sum (links (drop l.link-index l.rest))
    ≡ program.links_weight l.weights l.initial.sum (links l.rest)

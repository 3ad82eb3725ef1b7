-- Loops of misused_params: the first misuse so far, with the walk of the parameters left, is that of the walk of all.
use Rattle.std.proofs.Common.{◌≡◌, drop, map, None}
use Rattle.rev_syntax.specs.View.{parameter, block}
use Rattle.affine_check.specs.Walk as rule
use Rattle.affine_check.proofs.checker.misused_params.Given as goal

abbrev pub invariant-loop-param : goal.invariant-loop-param
invariant-loop-param l =
    rule.misused_params l.scope.locals (block l.body) l.found (map parameter (drop l.param-index l.params))
    ≡ rule.misused_params l.scope.locals (block l.body) None (map parameter l.params)

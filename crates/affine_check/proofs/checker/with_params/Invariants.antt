-- Loops of with_params: adding the parameters left to the locals so far gives the locals with all parameters.
use Rattle.std.proofs.Common.{◌≡◌, drop, map}
use Rattle.rev_syntax.specs.View.{parameter}
use Rattle.typed_programs.specs.Scopes as scopes
use Rattle.affine_check.proofs.checker.with_params.Given as goal

abbrev pub invariant-loop-param : goal.invariant-loop-param
invariant-loop-param l =
    scopes.with_params l.locals (map parameter (drop l.param-index l.params))
    ≡ scopes.with_params l.initial.locals (map parameter l.params)

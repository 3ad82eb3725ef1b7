-- Loops of params_locals: adding the parameters left to the locals so far gives the locals with all parameters.
use Rattle.std.proofs.Common.{◌≡◌, [], drop, map}
use Rattle.rev_syntax.specs.View.{parameter}
use Rattle.typed_programs.specs.Scopes.{with_params}
use Rattle.emit_program.proofs.params.params_locals.Given as goal

abbrev pub invariant-loop-p : goal.invariant-loop-p
invariant-loop-p l =
    with_params l.locals (map parameter (drop l.p-index l.params)) ≡ with_params [] (map parameter l.params)

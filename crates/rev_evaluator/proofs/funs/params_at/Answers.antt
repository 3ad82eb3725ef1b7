-- Answers of params_at: the parameters are those of the declaration of this number, and without one there are none.
use Rattle.std.proofs.Common.{◌∙◌, ap, sym}
use Rattle.typed_programs.specs.Evaluation.{params_at, params_in}
use Rattle.rev_evaluator.specs.Declarations.{declared_by}
use Rattle.rev_evaluator.proofs.funs.params_at.Goals as goal

pub returns-in-Some-declared : goal.returns-in-Some-declared
unfolding params_at
returns-in-Some-declared c =
    c.fun_params.ensures ∙ ap params_in c.in-Some-declared.ensures
    ∙ ap (params_at (declared_by c.args.expanded.now)) (sym c.in-Some.is)

pub returns-in-None-declared : goal.returns-in-None-declared
unfolding params_at
returns-in-None-declared c =
    ap params_in c.in-None-declared.ensures ∙ ap (params_at (declared_by c.args.expanded.now)) (sym c.in-Some.is)

pub returns-in-None : goal.returns-in-None
unfolding params_at
returns-in-None c = ap (params_at (declared_by c.args.expanded.now)) (sym c.in-None.is)

-- Answers of body_at: the declaration of this number has the body, and without a declaration there is none.
use Rattle.std.proofs.Common.{◌∙◌, ap, option_and_then}
use Rattle.typed_programs.specs.Evaluation.{body_at, fun_body}
use Rattle.rev_evaluator.proofs.funs.body_at.Goals as goal

pub returns-in-Some : goal.returns-in-Some
unfolding body_at
returns-in-Some c = c.fun_body.ensures ∙ ap (option_and_then fun_body) c.in-Some.ensures

pub returns-in-None : goal.returns-in-None
unfolding body_at
returns-in-None c = ap (option_and_then fun_body) c.in-None.ensures

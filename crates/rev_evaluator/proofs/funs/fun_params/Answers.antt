-- Answers of fun_params: a declaration that is no fun has no parameters.
use Rattle.rev_evaluator.proofs.Meanings.{no_params}
use Rattle.rev_evaluator.proofs.funs.fun_params.Goals as goal

pub returns-in_default : goal.returns-in_default
returns-in_default c = no_params c.args.decl.now c.in_default.not-Fun

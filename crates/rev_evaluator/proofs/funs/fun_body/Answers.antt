-- Answers of fun_body: a declaration that is no fun has no body.
use Rattle.rev_evaluator.proofs.Meanings.{no_body}
use Rattle.rev_evaluator.proofs.funs.fun_body.Goals as goal

pub returns-in_default : goal.returns-in_default
returns-in_default c = no_body c.args.decl.now c.in_default.not-Fun

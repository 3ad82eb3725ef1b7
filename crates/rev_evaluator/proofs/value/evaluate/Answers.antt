-- Answers of evaluate: outside of funs all declarations may be applied, so the value within them all is the value.
use Rattle.std.proofs.Common.{◌≡◌, ◌∙◌, length, refl, rules}
use Rattle.rev_syntax.specs.View.{expression}
use Rattle.rev_evaluator.specs.Declarations.{declared_by}
use Rattle.rev_evaluator.proofs.Evaluations.{outside_all}
use Rattle.rev_evaluator.proofs.value.evaluate.Goals as goal

pub returns : goal.returns
returns g c =
    let count : c.len.result ≡ length c.args.expanded.now.program.decls.items = search rules in
    c.take_turns.ensures.answer
    ∙ outside_all (declared_by c.args.expanded.now) c.args.expanded.now.program.decls.items _
    (g.E.Environment.env c.args.environment.now) (expression c.args.e.now) refl count

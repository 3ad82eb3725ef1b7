-- Answers of begin_arguments: the first argument and then the rest come to the code of all the arguments.
use Rattle.std.proofs.Common.{◌∙◌, ◌++◌, ap, sym, length}
use Rattle.rev_syntax.specs.View.{expression, expressions}
use Rattle.code_generation.specs.Expressions.{expressions_code}
use Rattle.emit_code.specs.Naming.{numbers_of}
use Rattle.emit_code.proofs.Forms.{more_arguments}
use Rattle.emit_code.proofs.turns.begin_arguments.Goals as goal

pub returns-in-Some-clause-meaning : goal.returns-in-Some-clause-meaning
returns-in-Some-clause-meaning c code =
    let n = numbers_of c.args.known.now.numbers.now in let s = c.args.known.now.scope.now in
    more_arguments n s (expression c.in-Some.arg.now) (expressions c.in-Some.rest.now) code
    ∙ ap (λ es. code ++ expressions_code n s (expressions es) (length code)) (sym c.in-Some.ensures.cases.0)

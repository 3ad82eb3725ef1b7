-- Answers of expression_law: a well-formed expression with a kind is typed, and a typed one runs to its value.
use Rattle.expression_meaning.specs.Agrees.{FunReads}
use Rattle.expression_meaning.proofs.Typing.{typed}
use Rattle.expression_meaning.proofs.Runs.{expression_runs}
use Rattle.expression_meaning.proofs.expressions.expression_law.Goals as goal

pub returns : goal.returns
returns c = λ s n b scope names l fs e a reads x t at stack kind formed applies here.
    expression_runs s n b scope names l fs e a reads x t at stack
    (typed names l (λ name f. FunReads s (n.fun name) f (fs name)) x t kind formed applies) here

-- Answers of arguments_law: well-formed arguments are typed, and typed arguments run from left to right.
use Rattle.std.proofs.Common.{◌≡◌, ◌+◌, ap, arith}
use Rattle.std.specs.Prelude.{slice_get}
use Rattle.expression_meaning.specs.Agrees.{FunReads}
use Rattle.expression_meaning.proofs.Typing.{args_typed}
use Rattle.expression_meaning.proofs.Runs.{args_run}
use Rattle.expression_meaning.proofs.expressions.arguments_law.Goals as goal

pub returns : goal.returns
returns c = λ s n b scope names l fs e a reads ps xs at stack many kinds formed applies here.
    args_run s n b scope names l fs e a reads ps xs at stack
    (args_typed names l (λ name f. FunReads s (n.fun name) f (fs name)) ps ps 0 xs
    (λ i. ap (slice_get ps) (let z : 0 + i ≡ i = omega arith in z)) many kinds formed applies)
    here

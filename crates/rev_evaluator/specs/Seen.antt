-- What values and answers mean that an expression reads and gives.
use Rattle.std.specs.Prelude.{ℤ, Some, None, Result, Ok, Err}
use Rattle.rev_num.specs.declared.value.Value.{Value}
use Rattle.rev_num.specs.declared.value.Value.TheVariants as v
use Rattle.rev_num.specs.declared.outcome.Cause.{Cause}
use Rattle.typed_programs.specs.Value.{Answer}
use Rattle.rev_evaluator.specs.declared.seen.Seen.{Seen}
use Rattle.rev_evaluator.specs.declared.seen.Seen.TheVariants.{Int, Bool, Rev}

-- the value: of a handle the path that is borrowed
abbrev pub seen : Seen → Value
seen (Int n) = v.Int n
seen (Bool b) = v.Bool b
seen (Rev None) = v.Rev None
seen (Rev (Some path)) = v.Rev (Some path.now)

abbrev pub answer : Result Seen Cause → Answer
answer (Ok x) = Ok (seen x)
answer (Err c) = Err c

-- a number as an answer
abbrev pub input_answer : Result ℤ Cause → Answer
input_answer (Ok z) = Ok (v.Int z)
input_answer (Err c) = Err c

-- What the closures of a kernel answer.
--   Answers      for all numbers of 64 bits, each result of a call is the value of this expression
--   RowAnswers   for all lanes of 64 bits, each result of a call is its value of each lane, or none
--                where a lane faults
use Rattle.std.specs.Prelude.{◌≡◌, ℤ, true, List, Option, Result}
use Rattle.rev_num.specs.declared.value.NumFault.{NumFault}
use Rattle.rev_num.specs.Arith.{fits_i64}
use Rattle.rev_syntax.specs.Trees.{Expression}
use Rattle.merge_kernels.specs.Lanes.{AreLanes, lanes_answer}
use Rattle.merge_kernels.specs.Terms.{answer_of}

abbrev pub Answers : (ℤ → ℤ → ℤ → Result ℤ NumFault → Type 0) → Expression → Type 0
Answers post e =
    (main join root : ℤ) → fits_i64 main ≡ true → fits_i64 join ≡ true → fits_i64 root ≡ true
    → (x : Result ℤ NumFault) → post main join root x → x ≡ answer_of e main join root

abbrev pub RowAnswers : (List ℤ → List ℤ → List ℤ → Option (List ℤ) → Type 0) → Expression → Type 0
RowAnswers post e =
    (mains joins roots : List ℤ) → AreLanes mains → AreLanes joins → AreLanes roots
    → (x : Option (List ℤ)) → post mains joins roots x → x ≡ lanes_answer (answer_of e) mains joins roots

-- What the three merges are worth.
use Rattle.std.proofs.Common.{◌≡◌, ◌∙◌, refl, ap, ℤ, Bool, true, false, if◌then◌else◌, Result, Ok, Err, int_lt}
use Rattle.rev_num.specs.declared.value.NumFault.{NumFault}
use Rattle.rev_num.specs.declared.value.NumFault.TheVariants as fault
use Rattle.rev_num.specs.declared.value.Value.TheVariants as v
use Rattle.rev_num.specs.Arith.{sum_of, difference_of}
use Rattle.typed_programs.specs.Value.{and_then, number, number_of}
use Rattle.typed_programs.specs.Evaluation.{merge_answer}
use Rattle.merge_kernels.specs.Terms.{answer_of, value_of}
use Rattle.merge_kernels.specs.Three.{sum_expression, greatest_expression, least_expression}

abbrev pub then_minus : Result ℤ NumFault → ℤ → Result ℤ NumFault
then_minus (Ok s) root = difference_of s root
then_minus (Err f) root = Err f

abbrev pub sum_answer : ℤ → ℤ → ℤ → Result ℤ NumFault
sum_answer main join root = then_minus (sum_of main join) root

last : (o : Result ℤ NumFault) → merge_answer (and_then (number o) (λ z. Ok z)) ≡ o
last (Ok z) = refl
last (Err fault.Overflow) = refl
last (Err fault.ZeroDivisor) = refl

both : (o : Result ℤ NumFault) (root : ℤ)
    → merge_answer (and_then (number o) (λ x. and_then (number (difference_of (number_of x) root)) (λ z. Ok z)))
    ≡ then_minus o root
both (Ok s) root = last (difference_of s root)
both (Err fault.Overflow) root = refl
both (Err fault.ZeroDivisor) root = refl

pub sum_is : (main join root : ℤ) → answer_of sum_expression main join root ≡ then_minus (sum_of main join) root
unfolding answer_of value_of
sum_is main join root = both (sum_of main join) root

one_of : (b : Bool) (main join : ℤ)
    → merge_answer (if b then Ok (v.Int join) else Ok (v.Int main)) ≡ Ok (if b then join else main)
one_of true main join = refl
one_of false main join = refl

pub greatest_is : (main join root : ℤ) (b : Bool) → int_lt main join ≡ b
    → answer_of greatest_expression main join root ≡ Ok (if b then join else main)
unfolding answer_of value_of
greatest_is main join root b e = one_of (int_lt main join) main join ∙ ap (λ c. Ok (if c then join else main)) e

pub least_is : (main join root : ℤ) (b : Bool) → int_lt join main ≡ b
    → answer_of least_expression main join root ≡ Ok (if b then join else main)
unfolding answer_of value_of
least_is main join root b e = one_of (int_lt join main) main join ∙ ap (λ c. Ok (if c then join else main)) e

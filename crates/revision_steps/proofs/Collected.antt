-- Answers that are collected one by one.
use Rattle.std.proofs.Common.{◌≡◌, List, [], ◌∷◌, ◌++◌, Result, Ok, Err, refl, sym, ap, append_assoc, append-nil}
use Rattle.rev_num.specs.declared.outcome.Cause.{Cause}
use Rattle.typed_programs.specs.Value.{and_then}
use Rattle.revision_data.specs.Reading.{prefixed}

pub one_more : {A : Type 0} (xs : List A) (y : A) (rest : Result (List A) Cause)
    → prefixed xs (and_then rest (λ ys. Ok (y ∷ ys))) ≡ prefixed (xs ++ y ∷ []) rest
one_more xs y (Ok ys) = ap Ok (sym (append_assoc xs (y ∷ []) ys))
one_more xs y (Err c) = refl

pub prefixed_none : {A : Type 0} (xs : List A) → prefixed xs (Ok []) ≡ Ok xs
prefixed_none xs = ap Ok (append-nil xs)

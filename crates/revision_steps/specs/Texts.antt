-- Texts that were made of items of a print.
use Rattle.std.specs.declared.alloc.Global.{Global}
use Rattle.std.specs.Prelude.{ℕ, List, ◌∷◌, map, Result, Ok, Err, Vec}
use Rattle.rev_num.specs.declared.outcome.Cause.{Cause}
use Rattle.rev_report.specs.Lines.{space}

abbrev pub behind_space : List ℕ → List ℕ
behind_space text = space ∷ text

abbrev pub text_of : Result (Vec ℕ Global) Cause → Result (List ℕ) Cause
text_of (Ok text) = Ok text.items
text_of (Err c) = Err c

abbrev pub bytes_of : Result (Vec (Vec ℕ Global) Global) Cause → Result (List (List ℕ)) Cause
bytes_of (Ok texts) = Ok (map (λ t. t.items) texts.items)
bytes_of (Err c) = Err c

-- What the parser of a grammar promises.
--   Verdict: what an answer says of all tokens
use Rattle.std.specs.Prelude.{ℕ, List, [], ◌∷◌, ◌≡◌, drop}
use Rattle.rev_expressions.specs.Outcome.{Unexpected, TooDeep, Outcome, Read, Failed}
use Rattle.rev_expressions.specs.Form.{Alphabet, Form, Rules}
use Rattle.rev_expressions.specs.First.{IsOnly, IsUnexpected, IsTooDeep}

module _ (G : Alphabet) (rules : Rules G) {A : Type 0} (F : Form G A) (n : ℕ) (ts : List G.Token)
  where
    -- a fault of these tokens, at which those that are left begin
    abbrev pub Before : (ℕ → Type 0) → List G.Token → Type 0
    Before IsFault rest = (at : ℕ) × IsFault at × (drop at ts ≡ rest)

    -- The answer is the one value of all tokens, the first place where none of any nesting goes on as
    -- they do, or the first token that opens a level too many.
    abbrev pub Verdict : Outcome G.Token A → Type 0
    Verdict (Read a []) = IsOnly G rules F n ts a
    Verdict (Read a (t ∷ rest)) = Before (IsUnexpected G rules F n ts) (t ∷ rest)
    Verdict (Failed Unexpected rest) = Before (IsUnexpected G rules F n ts) rest
    Verdict (Failed TooDeep rest) = Before (IsTooDeep G rules F n ts) rest

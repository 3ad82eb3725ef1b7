-- What a parser answers.
use Rattle.std.specs.Prelude.{ℕ, zero, suc, List, [], ◌∷◌, Option, Some, None}

-- why tokens cannot be read on
pub data Stop : Type 0 where
  Unexpected : Stop
  TooDeep : Stop

module _ (Token : Type 0) where
  -- a value and the tokens behind it, or why not, with the tokens from that place on
  pub data Outcome (A : Type 0) : Type 0 where
    Read : A → List Token → Outcome A
    Failed : Stop → List Token → Outcome A

  abbrev pub Parser : Type 0 → Type 0
  Parser A = List Token → Outcome A

module _ {Token : Type 0} where
  abbrev pub and_then : {A B : Type 0} → Outcome Token A → (A → Parser Token B) → Outcome Token B
  and_then (Read a ts) g = g a ts
  and_then (Failed e ts) g = Failed e ts

  abbrev pub next : List Token → Option Token
  next [] = None
  next (t ∷ ts) = Some t

  abbrev pub after : List Token → List Token
  after [] = []
  after (t ∷ ts) = ts

  -- how many of so many first tokens are left behind these
  abbrev pub left : ℕ → List Token → ℕ
  left zero ts = zero
  left (suc k) [] = suc k
  left (suc k) (t ∷ ts) = left k ts

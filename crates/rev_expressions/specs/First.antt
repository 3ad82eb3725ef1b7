-- The one value of the tokens, and the first place where they have none.
use Rattle.std.specs.Prelude.{ℕ, suc, List, ◌∷◌, ◌++◌, ◌≡◌, ◌≤◌, length, take, drop, Some}
use Rattle.rev_expressions.specs.Outcome.{next}
use Rattle.rev_expressions.specs.Form.{Alphabet, Form, Rules, Stands}

module _ (G : Alphabet) (rules : Rules G) {A : Type 0} (F : Form G A) where
  -- of any nesting
  abbrev pub IsAny : List G.Token → A → Type 0
  IsAny ts x = Stands G rules F 0 0 ts x

  -- some more tokens make something whole of these, and these open at most n levels at once
  pub record Begins (n : ℕ) (ts : List G.Token) : Type 0 where
    pub more : List G.Token
    pub value : A
    pub whole : Stands G rules F n (length ts) (ts ++ more) value

  -- the tokens open at most n levels at once, and stand for this value and no other
  pub record IsOnly (n : ℕ) (ts : List G.Token) (x : A) : Type 0 where
    pub whole : Stands G rules F n (length ts) ts x
    pub only : (y : A) → IsAny ts y → y ≡ x

  -- The tokens before this place begin something and open at most n levels. With the next token they begin nothing of
  -- any nesting, or, at the end, they are nothing whole.
  pub record IsUnexpected (n : ℕ) (ts : List G.Token) (at : ℕ) : Type 0 where
    pub inside : at ≤ length ts
    pub begins : Begins n (take at ts)
    pub none :
        (more : List G.Token) (x : A) → next more ≡ next (drop at ts) →
        IsAny (take at ts ++ more) x → ⊥

  -- The tokens before this place begin something and open at most n levels. With the next token they begin something
  -- too, but they open more levels.
  pub record IsTooDeep (n : ℕ) (ts : List G.Token) (at : ℕ) : Type 0 where
    pub token : G.Token
    pub here : next (drop at ts) ≡ Some token
    pub begins : Begins n (take at ts)
    pub more : List G.Token
    pub value : A
    pub goes_on : Stands G rules F n at (take at ts ++ token ∷ more) value
    pub none :
        (more : List G.Token) (x : A) → Stands G rules F n (suc at) (take at ts ++ token ∷ more) x →
        ⊥

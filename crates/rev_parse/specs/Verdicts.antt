-- What the parser promises of a text's tokens.
use Rattle.std.specs.Prelude.{◌≡◌, ℕ, List, [], ◌∷◌, length, drop}
use Rattle.rev_syntax.specs.Trees.{ProgramTree}
use Rattle.rev_syntax.specs.declared.token.Token.{Token}
use Rattle.rev_expressions.specs.First as first
use Rattle.rev_expressions.specs.Grammar.{alphabet}
use Rattle.rev_expressions.specs.Declarations.{inner, program}
-- how many levels may be open at once
pub use Rattle.rev_parse.specs.declared.whole.TheConstants.{MOST_LEVELS as most_levels}

-- The tokens are a program, no more levels are open at once than may be, and no other tree of any nesting is derived.
abbrev pub IsProgram : List ℕ → List Token → ProgramTree → Type 0
IsProgram bytes ts p = first.IsOnly alphabet (inner bytes) (program bytes) most_levels ts p

-- With the token of this number, or with the end behind the last, no program of any nesting goes on as the tokens do.
-- Those before it begin a program and open no level too many.
abbrev pub IsUnexpected : List ℕ → List Token → ℕ → Type 0
IsUnexpected bytes ts n = first.IsUnexpected alphabet (inner bytes) (program bytes) most_levels ts n

-- The token of this number is the first that opens a level too many, and with it the tokens begin a program still.
abbrev pub IsTooDeep : List ℕ → List Token → ℕ → Type 0
IsTooDeep bytes ts n = first.IsTooDeep alphabet (inner bytes) (program bytes) most_levels ts n

-- where the first of these tokens stands, or the end of the text where there is none
abbrev pub place_of : List ℕ → List Token → ℕ
place_of bytes [] = length bytes
place_of bytes (t ∷ ts) = t.start

-- a fault of the token of some number, at its place
abbrev pub At : (ℕ → Type 0) → List ℕ → List Token → ℕ → Type 0
At IsFault bytes ts at = (n : ℕ) × IsFault n × (at ≡ place_of bytes (drop n ts))

-- what the tokens of a text are: a program, or at fault at a place
pub data Verdict : Type 0 where
  tree : ProgramTree → Verdict
  unexpected : ℕ → Verdict
  too_deep : ℕ → Verdict

abbrev pub IsVerdict : List ℕ → List Token → Verdict → Type 0
IsVerdict bytes ts (tree p) = IsProgram bytes ts p
IsVerdict bytes ts (unexpected at) = At (IsUnexpected bytes ts) bytes ts at
IsVerdict bytes ts (too_deep at) = At (IsTooDeep bytes ts) bytes ts at

-- No tokens have two verdicts: one tree at most, one first fault at most, and not both.
abbrev pub OneVerdict : Type 0
OneVerdict = (bytes : List ℕ) (ts : List Token) (a b : Verdict) → IsVerdict bytes ts a → IsVerdict bytes ts b → a ≡ b

-- All tokens have a verdict.
abbrev pub SomeVerdict : Type 0
SomeVerdict = (bytes : List ℕ) (ts : List Token) → (v : Verdict) × IsVerdict bytes ts v

-- What tokens are of a text.
use Rattle.std.specs.Prelude.{ℕ, ℤ, pos, ◌-◌, ◌+◌, ◌<◌, ◌≤◌, ◌==◌, if◌then◌else◌, List, [], ◌∷◌, length, take, drop, get_or}
use Rattle.rev_syntax.specs.declared.token.Token.{Token}
use Rattle.rev_syntax.specs.declared.token.TokenKind.{TokenKind}
use Rattle.rev_syntax.specs.declared.token.TokenKind.TheVariants as k
use Rattle.rev_syntax.specs.Trees.{PlacedName}

-- the places of the line feeds, where the first byte stands at this place
abbrev pub feeds_from : ℕ → List ℕ → List ℕ
feeds_from at [] = []
feeds_from at (b ∷ bs) = if b == 10 then at ∷ feeds_from (at + 1) bs else feeds_from (at + 1) bs

-- the last of the first i places stands before this one, and the place behind it does not
pub record IsEdge (fs : List ℕ) (i at : ℕ) : Type 0 where
  pub within : i ≤ length fs
  pub before : 0 < i → get_or fs (i - 1) 0 < at
  pub behind : i < length fs → at ≤ get_or fs i 0

abbrev pub slice : List ℕ → ℕ → ℕ → List ℕ
slice bytes from to = take (to - from) (drop from bytes)

abbrev pub word_of : List ℕ → Token → PlacedName
word_of bytes t = record { at = t.start; text = slice bytes t.start t.end }

-- the bytes between the quotes of a text
abbrev pub text_of : List ℕ → Token → List ℕ
text_of bytes t = slice bytes (t.start + 1) (t.end - 1)

abbrev pub int_of : TokenKind → ℤ
int_of (k.Int n) = n
int_of _ = pos 0

-- Classes of tokens: what a token is, without the value of a number.
--   class_of: the class of a kind of token
--   is_same: whether two classes are one
--   classes: all of them
use Rattle.std.specs.Prelude.{Bool, true, false, List, ◌∷◌, map}
use Rattle.rev_syntax.specs.declared.token.Fixed.{Fixed}
use Rattle.rev_syntax.specs.declared.token.TokenKind.{TokenKind}
use Rattle.rev_syntax.specs.declared.token.TokenKind.TheVariants as k
use Rattle.rev_syntax.specs.Words as words
use Rattle.rev_syntax.specs.Words.{spelling, has_spelling}

pub data Class : Type 0 where
  name : Class
  number : Class
  text : Class
  fixed : Fixed → Class

abbrev pub class_of : TokenKind → Class
class_of k.Name = name
class_of (k.Int n) = number
class_of k.Text = text
class_of (k.Fixed f) = fixed f

-- Two reserved words or signs are one where they are spelled alike.
abbrev pub is_same : Class → Class → Bool
is_same name name = true
is_same number number = true
is_same text text = true
is_same (fixed f) (fixed g) = has_spelling (spelling g) f
is_same _ _ = false

abbrev pub classes : List Class
classes = name ∷ number ∷ text ∷ map fixed words.fixed

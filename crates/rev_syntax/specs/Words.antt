-- The reserved words, the signs and the names.
--   spelling: the bytes of a reserved word or a sign
--   words, signs, fixed: all of them
--   is_reserved, is_name: bytes that are a reserved word, and those that are a name
use Rattle.std.specs.Prelude.{ℕ, Bool, not, ◌&&◌, List, ◌++◌, nat_eq, codes}
use Rattle.std.specs.List.{list_any}
use Rattle.std.specs.Cmp.Lexicographic.{pointwise}
use Rattle.rev_syntax.specs.declared.token.Fixed.{Fixed}
use Rattle.rev_syntax.specs.declared.token.Fixed.TheVariants as s
-- the reserved words, and the signs, the longer ones first, each list once, as a constant of the code
pub use Rattle.rev_syntax.specs.declared.token.TheConstants.{WORDS as words, SIGNS as signs}
use Rattle.rev_syntax.specs.Bytes.{is_word}

-- the bytes of a reserved word or a sign
abbrev pub spelling : Fixed → List ℕ
spelling s.Fun = codes "fun"
spelling s.Merge = codes "merge"
spelling s.Versioned = codes "versioned"
spelling s.Cumulative = codes "cumulative"
spelling s.By = codes "by"
spelling s.Proc = codes "proc"
spelling s.Main = codes "main"
spelling s.KindInt = codes "int"
spelling s.KindBool = codes "bool"
spelling s.KindRev = codes "rev"
spelling s.Let = codes "let"
spelling s.If = codes "if"
spelling s.Else = codes "else"
spelling s.While = codes "while"
spelling s.Call = codes "call"
spelling s.Return = codes "return"
spelling s.Fork = codes "rfork"
spelling s.Join = codes "rjoin"
spelling s.TryJoin = codes "tryjoin"
spelling s.Print = codes "print"
spelling s.Assert = codes "assert"
spelling s.True = codes "true"
spelling s.False = codes "false"
spelling s.NoRev = codes "none"
spelling s.Input = codes "input"
spelling s.Inputs = codes "inputs"
spelling s.Pick = codes "pick"
spelling s.Equal = codes "=="
spelling s.NotEqual = codes "!="
spelling s.LessEqual = codes "<="
spelling s.GreaterEqual = codes ">="
spelling s.And = codes "&&"
spelling s.Or = codes "||"
spelling s.OpenParen = codes "("
spelling s.CloseParen = codes ")"
spelling s.OpenBrace = codes "{"
spelling s.CloseBrace = codes "}"
spelling s.OpenBracket = codes "["
spelling s.CloseBracket = codes "]"
spelling s.Comma = codes ","
spelling s.Semicolon = codes ";"
spelling s.Colon = codes ":"
spelling s.Assign = codes "="
spelling s.Plus = codes "+"
spelling s.Minus = codes "-"
spelling s.Star = codes "*"
spelling s.Slash = codes "/"
spelling s.Percent = codes "%"
spelling s.Bang = codes "!"
spelling s.Less = codes "<"
spelling s.Greater = codes ">"

-- all of them
abbrev pub fixed : List Fixed
fixed = words ++ signs

abbrev pub has_spelling : List ℕ → Fixed → Bool
has_spelling bytes word = pointwise nat_eq (spelling word) bytes

abbrev pub is_reserved : List ℕ → Bool
is_reserved bytes = list_any (has_spelling bytes) words

-- a letter and then letters and digits, but no reserved word
abbrev pub is_name : List ℕ → Bool
is_name bytes = is_word bytes && not (is_reserved bytes)

-- How a text is cut into tokens: piece after piece, always the longest that fits.
use Rattle.std.specs.Prelude.{◌≡◌, ◌≢◌, ℕ, ◌+◌, ◌<◌, ◌≤◌, Bool, false, true, not, ◌&&◌, ◌==◌, List, [], ◌∷◌, ◌++◌, length, IsTrue, IsFalse, slice_range, codes}
use Rattle.std.specs.List.{list_all}
use Rattle.rev_num.specs.Arith.{fits_i64}
use Rattle.rev_num.specs.Decimal.{IsUnsigned}
use Rattle.rev_syntax.specs.declared.token.TokenKind.{TokenKind}
use Rattle.rev_syntax.specs.declared.token.TokenKind.TheVariants as k
use Rattle.rev_syntax.specs.declared.token.Token.{Token}
use Rattle.rev_syntax.specs.declared.token.PieceKind.{PieceKind}
use Rattle.rev_syntax.specs.declared.token.PieceKind.TheVariants as piece
use Rattle.rev_syntax.specs.declared.scan.LexFault.{LexFault}
use Rattle.rev_syntax.specs.declared.scan.LexFault.TheVariants as fault
use Rattle.rev_syntax.specs.Bytes.{is_letter, is_blank, is_text_byte, is_no_line_feed}
use Rattle.rev_syntax.specs.Words.{spelling, is_name}

-- one byte of white space
pub record IsWhiteSpace (w : List ℕ) : Type 0 where
  pub byte : ℕ
  pub alone : w ≡ byte ∷ []
  pub blank : IsTrue (is_blank byte)

-- two slashes, and then any bytes but a line feed
pub record IsComment (w : List ℕ) : Type 0 where
  pub body : List ℕ
  pub opens : w ≡ codes "//" ++ body
  pub inside : IsTrue (list_all is_no_line_feed body)

-- a quote, then printable bytes that are no quotes, then a quote
pub record IsQuoted (w : List ℕ) : Type 0 where
  pub body : List ℕ
  pub quotes : w ≡ 34 ∷ (body ++ 34 ∷ [])
  pub inside : IsTrue (list_all is_text_byte body)

-- Which bytes make a piece of this kind. A number is one or more digits, and has their value. A
-- reserved word and a sign have one spelling each.
abbrev pub Spells : PieceKind → List ℕ → Type 0
Spells piece.WhiteSpace w = IsWhiteSpace w
Spells piece.Comment w = IsComment w
Spells (piece.Token k.Name) w = IsTrue (is_name w)
Spells (piece.Token (k.Int n)) w = IsUnsigned w n
Spells (piece.Token k.Text) w = IsQuoted w
Spells (piece.Token (k.Fixed f)) w = w ≡ spelling f

pub record Piece : Type 0 where
  pub kind : PieceKind
  pub bytes : List ℕ

-- a piece, and none with which the text begins is longer
pub record IsLongest (s : List ℕ) (p : Piece) : Type 0 where
  pub spells : Spells p.kind p.bytes
  pub longest :
      (q : Piece) (more : List ℕ) → Spells q.kind q.bytes → s ≡ q.bytes ++ more →
      length q.bytes ≤ length p.bytes

abbrev pub begins_with_letter : List ℕ → Bool
begins_with_letter [] = false
begins_with_letter (b ∷ bs) = is_letter b

-- A number is at most 9223372036854775807, and no letter follows it.
abbrev pub IsSound : PieceKind → List ℕ → Type 0
IsSound (piece.Token (k.Int n)) rest = IsTrue (fits_i64 n) × IsFalse (begins_with_letter rest)
IsSound _ rest = Unit {0}

-- the piece with which the text begins, and the rest of the text
pub record Next (s : List ℕ) (p : Piece) (rest : List ℕ) : Type 0 where
  pub split : s ≡ p.bytes ++ rest
  pub longest : IsLongest s p
  pub sound : IsSound p.kind rest

-- these pieces, one after another, lead from the text to the rest
abbrev pub Leads : List Piece → List ℕ → List ℕ → Type 0
Leads [] s end = s ≡ end
Leads (p ∷ ps) s end = (rest : List ℕ) × Next s p rest × Leads ps rest end

-- the number of bytes of the pieces
abbrev pub array_size : List Piece → ℕ
array_size [] = 0
array_size (p ∷ ps) = length p.bytes + array_size ps

-- The tokens among the pieces, where the first piece stands at this offset.
abbrev pub token_of : PieceKind → ℕ → ℕ → List Token
token_of (piece.Token kind) start end = record { kind = kind; start = start; end = end } ∷ []
token_of _ start end = []

abbrev pub tokens_of : ℕ → List Piece → List Token
tokens_of at [] = []
tokens_of at (p ∷ ps) =
    token_of p.kind at (at + length p.bytes) ++ tokens_of (at + length p.bytes) ps

-- The text before the offset `at` is cut into pieces; these are its tokens, and this is the rest.
pub record CutTo (s : List ℕ) (at : ℕ) (rest : List ℕ) (ts : List Token) : Type 0 where
  pub pieces : List Piece
  pub leads : Leads pieces s rest
  pub place : at ≡ array_size pieces
  pub tokens : ts ≡ tokens_of 0 pieces

-- the tokens of a whole text
abbrev pub IsTokens : List ℕ → List Token → Type 0
IsTokens s ts = CutTo s (length s) [] ts

abbrev pub HasTokens : List ℕ → Type 0
HasTokens s = (ts : List Token) × IsTokens s ts

-- no piece begins the text
abbrev pub BeginsNone : List ℕ → Type 0
BeginsNone s = (q : Piece) (more : List ℕ) → Spells q.kind q.bytes → s ≡ q.bytes ++ more → ⊥

-- a byte that begins no piece and opens no text in quotes
pub record IsBadByte (s : List ℕ) : Type 0 where
  pub byte : ℕ
  pub more : List ℕ
  pub split : s ≡ byte ∷ more
  pub none : BeginsNone s
  pub plain : byte ≢ 34

-- a number that is too large or that a letter follows
pub record IsBadNumber (s : List ℕ) : Type 0 where
  pub number : Piece
  pub rest : List ℕ
  pub split : s ≡ number.bytes ++ rest
  pub longest : IsLongest s number
  pub unsound : IsSound number.kind rest → ⊥

-- the text ends, or goes on with a byte that no text in quotes has
abbrev pub is_cut_off : List ℕ → Bool
is_cut_off [] = true
is_cut_off (b ∷ bs) = not (is_text_byte b) && not (b == 34)

-- a quote that opens a text which is not closed
pub record IsOpenText (s : List ℕ) : Type 0 where
  pub body : List ℕ
  pub rest : List ℕ
  pub split : s ≡ 34 ∷ (body ++ rest)
  pub inside : IsTrue (list_all is_text_byte body)
  pub cut_off : IsTrue (is_cut_off rest)

-- The text before the offset is cut into tokens, and what stands there is bad.
pub record Stops (Bad : List ℕ → Type 0) (s : List ℕ) (at : ℕ) : Type 0 where
  pub rest : List ℕ
  pub tokens : List Token
  pub before : CutTo s at rest tokens
  pub bad : Bad rest

-- the first fault of a text; want of memory is no fault of the text
abbrev pub IsFirstFault : List ℕ → LexFault → Type 0
IsFirstFault s (fault.BadByte at) = Stops IsBadByte s at
IsFirstFault s (fault.BadNumber at) = Stops IsBadNumber s at
IsFirstFault s (fault.OpenText at) = Stops IsOpenText s at
IsFirstFault s fault.OutOfMemory = ⊥

abbrev pub HasFault : List ℕ → Type 0
HasFault s = (f : LexFault) × IsFirstFault s f

-- The spans of the tokens ascend, from one offset to another.
abbrev pub Ascend : ℕ → List Token → ℕ → Type 0
Ascend from [] to = from ≤ to
Ascend from (t ∷ ts) to = (from ≤ t.start) × (t.start < t.end) × Ascend t.end ts to

-- the bytes are a token of this kind
abbrev pub IsOfKind : TokenKind → List ℕ → Type 0
IsOfKind kind w = Spells (piece.Token kind) w

-- the token's bytes are of its kind
abbrev pub IsToken : List ℕ → Token → Type 0
IsToken s t = IsOfKind t.kind (slice_range s t.start t.end)

-- What a text begins with, worked out from its first byte.
use Rattle.std.specs.Prelude.{ℕ, ◌≡◌, ◌+◌, ◌<◌, ◌≤◌, ℤ, Bool, false, ◌==◌, nat_eq, if◌then◌else◌, List, [], ◌∷◌, length, take, drop, Option, Some, None, Result, Ok, Err, codes}
use Rattle.std.specs.List.{prefix_len, find, starts_with}
use Rattle.rev_num.specs.Decimal.{decimal_in}
use Rattle.rev_syntax.specs.declared.token.Fixed.{Fixed}
use Rattle.rev_syntax.specs.declared.token.TokenKind.{TokenKind}
use Rattle.rev_syntax.specs.declared.token.TokenKind.TheVariants as k
use Rattle.rev_syntax.specs.declared.token.PieceKind.{PieceKind}
use Rattle.rev_syntax.specs.declared.token.PieceKind.TheVariants as piece
use Rattle.rev_syntax.specs.declared.scan.Cut.{Cut}
use Rattle.rev_syntax.specs.declared.scan.LexFault.{LexFault}
use Rattle.rev_syntax.specs.declared.scan.LexFault.TheVariants as fault
use Rattle.rev_syntax.specs.Bytes.{is_digit, is_letter, is_name_byte, is_blank, is_text_byte, is_no_line_feed}
use Rattle.rev_syntax.specs.Tokens.{begins_with_letter, Piece, Next, IsBadByte, IsBadNumber, IsOpenText}
use Rattle.rev_syntax.specs.Words.{spelling, words, signs, has_spelling}

abbrev pub Scanned : Type 0
Scanned = Result Cut LexFault

abbrev pub cut : PieceKind → ℕ → Cut
cut f n = record { kind = f; length = n }

abbrev pub reserved_word : List ℕ → Option Fixed
reserved_word bytes = find (has_spelling bytes) words

abbrev pub fixed_or_name : Option Fixed → TokenKind
fixed_or_name (Some f) = k.Fixed f
fixed_or_name None = k.Name

abbrev pub word_kind : List ℕ → TokenKind
word_kind bytes = fixed_or_name (reserved_word bytes)

abbrev pub word_cut : List ℕ → Cut
word_cut s = let n = prefix_len is_name_byte s in cut (piece.Token (word_kind (take n s))) n

abbrev pub number_cut : ℕ → Option ℤ → Bool → ℕ → Scanned
number_cut n (Some z) false at = Ok (cut (piece.Token (k.Int z)) n)
number_cut n _ _ at = Err (fault.BadNumber at)

abbrev pub number_scan : ℕ → List ℕ → Scanned
number_scan at s =
    let n = prefix_len is_digit s in
    number_cut n (decimal_in (take n s)) (begins_with_letter (drop n s)) at

abbrev pub begins_with_quote : List ℕ → Bool
begins_with_quote [] = false
begins_with_quote (b ∷ bs) = b == 34

-- the text after an opening quote
abbrev pub text_scan : ℕ → List ℕ → Scanned
text_scan at s =
    let n = prefix_len is_text_byte s in
    if begins_with_quote (drop n s)
    then Ok (cut (piece.Token k.Text) (n + 2))
    else Err (fault.OpenText at)

abbrev pub first_sign : List ℕ → Option Fixed
first_sign s = find (λ f. starts_with nat_eq s (spelling f)) signs

abbrev pub sign_cut : ℕ → Option Fixed → Scanned
sign_cut at (Some f) = Ok (cut (piece.Token (k.Fixed f)) (length (spelling f)))
sign_cut at None = Err (fault.BadByte at)

-- The text from this byte on, by what the byte is.
abbrev pub scan_other : ℕ → ℕ → List ℕ → Scanned
scan_other at b bs =
    if starts_with nat_eq (b ∷ bs) (codes "//")
    then Ok (cut piece.Comment (prefix_len is_no_line_feed (b ∷ bs)))
    else sign_cut at (first_sign (b ∷ bs))

abbrev pub scan_no_digit : ℕ → ℕ → List ℕ → Scanned
scan_no_digit at b bs = if b == 34 then text_scan at bs else scan_other at b bs

abbrev pub scan_no_letter : ℕ → ℕ → List ℕ → Scanned
scan_no_letter at b bs = if is_digit b then number_scan at (b ∷ bs) else scan_no_digit at b bs

abbrev pub scan_no_blank : ℕ → ℕ → List ℕ → Scanned
scan_no_blank at b bs = if is_letter b then Ok (word_cut (b ∷ bs)) else scan_no_letter at b bs

abbrev pub scan_from : ℕ → ℕ → List ℕ → Scanned
scan_from at b bs = if is_blank b then Ok (cut piece.WhiteSpace 1) else scan_no_blank at b bs

abbrev pub scan : ℕ → List ℕ → Scanned
scan at [] = Err (fault.BadByte at)
scan at (b ∷ bs) = scan_from at b bs

-- The piece of that many bytes.
abbrev pub piece_at : Cut → List ℕ → Piece
piece_at c s = record { kind = c.kind; bytes = take c.length s }

-- what the answer says of the text, where it stands at this offset
abbrev pub Answers : ℕ → List ℕ → Scanned → Type 0
Answers at s (Ok c) =
    Next s (piece_at c s) (drop c.length s) × (0 < c.length) × (c.length ≤ length s)
Answers at s (Err (fault.BadByte a)) = (a ≡ at) × IsBadByte s
Answers at s (Err (fault.BadNumber a)) = (a ≡ at) × IsBadNumber s
Answers at s (Err (fault.OpenText a)) = (a ≡ at) × IsOpenText s
Answers at s (Err fault.OutOfMemory) = ⊥

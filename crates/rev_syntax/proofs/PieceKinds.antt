-- The kinds of pieces: what each begins with, and that the bytes of a piece determine its kind.
use Rattle.std.proofs.Common.{◌≡◌, ℕ, zero, suc, ◌<◌, ◌≤◌, Bool, true, false, not, ◌||◌, List, [], ◌∷◌, length, refl, sym, ap, ◌∙◌, subst, arith, nat_eq, inl, inr, ◌⊎◌}
use Rattle.std.specs.Prelude.{cond, ◌==◌, ℤ, pos, All, codes}
use Rattle.std.specs.Char.{IsAsciiDigit}
use Rattle.std.specs.List.{list_all, list_any, starts_with}
use Rattle.std.specs.Cmp.Lexicographic.{same_text}
use Rattle.std.proofs.lemmas.Bool.Decides.{nat_tests}
use Rattle.rev_num.specs.Decimal.{IsUnsigned, spelled}
use Rattle.rev_syntax.specs.declared.token.Fixed.{Fixed}
use Rattle.rev_syntax.specs.declared.token.Fixed.TheVariants as s
use Rattle.rev_syntax.specs.declared.token.TokenKind.TheVariants as k
use Rattle.rev_syntax.specs.declared.token.PieceKind.{PieceKind}
use Rattle.rev_syntax.specs.declared.token.PieceKind.TheVariants as piece
use Rattle.rev_syntax.specs.Bytes.{is_digit, is_letter, is_name_byte, is_blank, is_word}
use Rattle.rev_syntax.specs.Words.{spelling, words, signs, has_spelling, is_reserved, is_name}
use Rattle.rev_syntax.specs.Tokens.{Spells, IsWhiteSpace, IsComment, IsQuoted}
use Rattle.rev_syntax.specs.Scan.{fixed_or_name, word_kind, first_sign}
use Rattle.rev_syntax.proofs.Lists.{both, off, find-no, any-both}

-- what kind of byte a piece begins with
pub data Lead : Type 0 where
  blank : Lead
  letter : Lead
  digit : Lead
  quote : Lead
  other : Lead

abbrev pub lead : ℕ → Lead
lead b = cond (is_blank b) blank (cond (is_letter b) letter (cond (is_digit b) digit (cond (b == 34) quote other)))

pub lead-blank : (b : ℕ) → is_blank b ≡ true → lead b ≡ blank
lead-blank b h = rw h refl

pub blank-no_letter : (b : ℕ) → is_letter b ≡ true → is_blank b ≡ false
blank-no_letter b h = grind (arith, nat_tests)

pub lead-letter : (b : ℕ) → is_letter b ≡ true → lead b ≡ letter
lead-letter b h = let n = blank-no_letter b h in rw (n, h) refl

pub blank-no_digit : (b : ℕ) → is_digit b ≡ true → is_blank b ≡ false
blank-no_digit b h = grind (arith, nat_tests)

pub letter-no_digit : (b : ℕ) → is_digit b ≡ true → is_letter b ≡ false
letter-no_digit b h = grind (arith, nat_tests)

pub lead-digit : (b : ℕ) → is_digit b ≡ true → lead b ≡ digit
lead-digit b h = let n = blank-no_digit b h in let l = letter-no_digit b h in rw (n, l, h) refl

-- whether the bytes begin with a byte that only signs and comments begin with
abbrev pub is_other : List ℕ → Bool
is_other [] = false
is_other (b ∷ bs) = not (is_blank b || is_letter b || is_digit b || (b == 34))

pub lead-other : (b : ℕ) (bs : List ℕ) → is_other (b ∷ bs) ≡ true → lead b ≡ other
lead-other b bs h = grind arith

abbrev pub is_sign : List ℕ → Bool
is_sign w = list_any (has_spelling w) signs

pub lead-sign : (b : ℕ) (bs : List ℕ) → is_sign (b ∷ bs) ≡ true → lead b ≡ other
lead-sign b bs h =
    let a = any-both (λ x. is_other (spelling x)) (has_spelling (b ∷ bs)) signs refl h in
    let e = same_text (spelling a.0) (b ∷ bs) (sym a.1) in
    lead-other b bs (subst (λ (v : List ℕ). is_other v ≡ true) e a.2)

pub digits-pass : (ds : List ℕ) → All IsAsciiDigit ds → list_all is_digit ds ≡ true
digits-pass [] h = refl
digits-pass (x ∷ xs) h =
    let z : (48 ≤ x) × (x ≤ 57) = h 0 0 (omega arith) in
    let e : is_digit x ≡ true = grind (arith, nat_tests) in
    rw e (digits-pass xs (λ n d lt. h (suc n) d (omega arith)))

pub pass-digits : (ds : List ℕ) → list_all is_digit ds ≡ true → All IsAsciiDigit ds
pass-digits [] h n d lt = absurd (omega arith)
pass-digits (x ∷ xs) h zero d lt =
    let b = both (is_digit x) (list_all is_digit xs) h in (grind (arith, nat_tests), grind (arith, nat_tests))
pass-digits (x ∷ xs) h (suc n) d lt = pass-digits xs (both (is_digit x) (list_all is_digit xs) h).1 n d (omega arith)

-- what is known of the bytes of a piece by its first byte
abbrev pub LedBy : Lead → ℕ → List ℕ → Type 0
LedBy blank b bs = bs ≡ []
LedBy letter b bs = is_word (b ∷ bs) ≡ true
LedBy digit b bs = list_all is_digit (b ∷ bs) ≡ true
LedBy quote b bs = IsQuoted (b ∷ bs)
LedBy other b bs = IsComment (b ∷ bs) ⊎ (is_sign (b ∷ bs) ≡ true)

pub at-lead : (b : ℕ) (bs : List ℕ) (l : Lead) → lead b ≡ l → LedBy l b bs → LedBy (lead b) b bs
at-lead b bs l e h = subst (λ (x : Lead). LedBy x b bs) (sym e) h

pub from-lead : (b : ℕ) (bs : List ℕ) (l : Lead) → lead b ≡ l → LedBy (lead b) b bs → LedBy l b bs
from-lead b bs l e h = subst (λ (x : Lead). LedBy x b bs) e h

led-white : (b : ℕ) (bs : List ℕ) → IsWhiteSpace (b ∷ bs) → LedBy (lead b) b bs
led-white b bs h =
    let e : b ≡ h.byte = cc in
    let l : lead b ≡ blank = rw e (lead-blank h.byte h.blank) in
    let n : bs ≡ [] = cc in
    at-lead b bs blank l n

led-comment : (b : ℕ) (bs : List ℕ) → IsComment (b ∷ bs) → LedBy (lead b) b bs
led-comment b bs h =
    let e : b ≡ 47 = cc in
    let l : lead b ≡ other = rw e refl in
    at-lead b bs other l (inl h)

led-quoted : (b : ℕ) (bs : List ℕ) → IsQuoted (b ∷ bs) → LedBy (lead b) b bs
led-quoted b bs h =
    let e : b ≡ 34 = cc in
    let l : lead b ≡ quote = rw e refl in
    at-lead b bs quote l h

led-word : (b : ℕ) (bs : List ℕ) → is_word (b ∷ bs) ≡ true → LedBy (lead b) b bs
led-word b bs h = at-lead b bs letter (lead-letter b (both (is_letter b) (list_all is_name_byte bs) h).0) h

led-spelled : (b : ℕ) (bs v : List ℕ) → b ∷ bs ≡ v → (is_word v || is_sign v) ≡ true → LedBy (lead b) b bs
led-spelled b bs v e h =
    let g = subst (λ (w : List ℕ). (is_word w || is_sign w) ≡ true) (sym e) h in
    elim (is_word (b ∷ bs)) as (λ t. is_word (b ∷ bs) ≡ t → (t || is_sign (b ∷ bs)) ≡ true → LedBy (lead b) b bs) [
      | true ↦ λ w _. led-word b bs w
      | false ↦ λ _ i. at-lead b bs other (lead-sign b bs i) (inr i)
    ] refl g

word-or-sign : (f : Fixed) → (is_word (spelling f) || is_sign (spelling f)) ≡ true
word-or-sign s.Fun = refl
word-or-sign _ = refl

spelled-some : (f : Fixed) → [] ≡ spelling f → ⊥
spelled-some s.Fun h = cc
spelled-some _ h = cc

pub led : (f : PieceKind) (b : ℕ) (bs : List ℕ) → Spells f (b ∷ bs) → LedBy (lead b) b bs
led piece.WhiteSpace b bs h = led-white b bs h
led piece.Comment b bs h = led-comment b bs h
led (piece.Token k.Name) b bs h = led-word b bs (both (is_word (b ∷ bs)) (not (is_reserved (b ∷ bs))) h).0
led (piece.Token (k.Int n)) b bs h =
    let d = digits-pass (b ∷ bs) h.digits.each in
    at-lead b bs digit (lead-digit b (both (is_digit b) (list_all is_digit bs) d).0) d
led (piece.Token k.Text) b bs h = led-quoted b bs h
led (piece.Token (k.Fixed f)) b bs h = led-spelled b bs (spelling f) h (word-or-sign f)

-- A piece has at least one byte.
pub spells-some : (f : PieceKind) → Spells f [] → ⊥
spells-some piece.WhiteSpace h = cc
spells-some piece.Comment h = cc
spells-some (piece.Token k.Name) h = cc
spells-some (piece.Token (k.Int n)) h = let some : 0 < length {A = ℕ} [] = h.digits.some in omega arith
spells-some (piece.Token k.Text) h = cc
spells-some (piece.Token (k.Fixed f)) h = spelled-some f h

-- the kind of the bytes of a piece
abbrev pub kind_by : Lead → List ℕ → PieceKind
kind_by blank w = piece.WhiteSpace
kind_by letter w = piece.Token (word_kind w)
kind_by digit w = piece.Token (k.Int (pos (spelled w)))
kind_by quote w = piece.Token k.Text
kind_by other w = cond (starts_with nat_eq w (codes "//")) piece.Comment (piece.Token (fixed_or_name (first_sign w)))

abbrev pub kind_of : List ℕ → PieceKind
kind_of [] = piece.WhiteSpace
kind_of (b ∷ bs) = kind_by (lead b) (b ∷ bs)

kind_of-name : (w : List ℕ) → is_name w ≡ true → kind_of w ≡ piece.Token k.Name
kind_of-name [] h = absurd (cc)
kind_of-name (b ∷ bs) h =
    let w = both (is_word (b ∷ bs)) (not (is_reserved (b ∷ bs))) h in
    let l = lead-letter b (both (is_letter b) (list_all is_name_byte bs) w.0).0 in
    let r = off (is_reserved (b ∷ bs)) w.1 in
    let n = find-no (has_spelling (b ∷ bs)) words r in
    rw (l, n) refl

kind_of-number : (w : List ℕ) (n : ℤ) → IsUnsigned w n → kind_of w ≡ piece.Token (k.Int n)
kind_of-number [] n h = let some : 0 < length {A = ℕ} [] = h.digits.some in absurd (omega arith)
kind_of-number (b ∷ bs) n h =
    let d = digits-pass (b ∷ bs) h.digits.each in
    let l = lead-digit b (both (is_digit b) (list_all is_digit bs) d).0 in
    rw (l, h.value) refl

kind_of-fixed : (f : Fixed) → kind_of (spelling f) ≡ piece.Token (k.Fixed f)
kind_of-fixed s.Fun = refl
kind_of-fixed _ = refl

pub kind_of-spells : (f : PieceKind) (w : List ℕ) → Spells f w → kind_of w ≡ f
kind_of-spells piece.WhiteSpace w h = let e = lead-blank h.byte h.blank in rw (h.alone, e) refl
kind_of-spells piece.Comment w h = rw h.opens refl
kind_of-spells (piece.Token k.Name) w h = kind_of-name w h
kind_of-spells (piece.Token (k.Int n)) w h = kind_of-number w n h
kind_of-spells (piece.Token k.Text) w h = rw h.quotes refl
kind_of-spells (piece.Token (k.Fixed f)) w h = ap kind_of h ∙ kind_of-fixed f

-- The bytes of a piece determine its kind.
pub one-kind : (f g : PieceKind) (w : List ℕ) → Spells f w → Spells g w → f ≡ g
one-kind f g w h i = let a = kind_of-spells f w h in let b = kind_of-spells g w i in cc

-- Tokens as a text has them: each has some bytes of the text, of its kind, and no number is too large.
use Rattle.std.proofs.Common.{◌≡◌, ℕ, ℤ, pos, suc, ◌+◌, ◌-◌, ◌^◌, ◌<◌, ◌≤◌, true, List, [], ◌∷◌, ◌++◌, length, take, drop, sym, ap, ◌∙◌, subst, arith, length-append, length-take, length-drop}
use Rattle.std.proofs.lemmas.List.{take-take, drop-take, drop-drop, length-take-le}
use Rattle.std.proofs.lemmas.List.Elements.{All-head, All-tail}
use Rattle.std.proofs.Math.Seq.{take-append_seam}
use Rattle.std.proofs.lemmas.Bool.{ltb-true}
use Rattle.std.specs.Prelude.{All, slice_range, nat_lt, IsTrue}
use Rattle.std.specs.List.{list_all}
use Rattle.rev_num.specs.Arith.{fits_i64}
use Rattle.rev_num.specs.Decimal.{IsUnsigned, spelled}
use Rattle.rev_syntax.specs.declared.token.Token.{Token}
use Rattle.rev_syntax.specs.declared.token.TokenKind.{TokenKind}
use Rattle.rev_syntax.specs.declared.token.TokenKind.TheVariants as k
use Rattle.rev_syntax.specs.declared.token.PieceKind.{PieceKind}
use Rattle.rev_syntax.specs.declared.token.PieceKind.TheVariants as piece
use Rattle.rev_syntax.specs.Bytes.{is_text_byte}
use Rattle.rev_syntax.specs.Words.{is_name}
use Rattle.rev_syntax.specs.Small.{greatest}
use Rattle.rev_syntax.specs.Tokens.{Spells, IsQuoted, IsSound, Piece, Leads, token_of, tokens_of, IsTokens, Ascend, IsToken}
use Rattle.rev_syntax.proofs.Spans.{tokens-ascend, tokens-kinds}
use Rattle.rev_expressions.specs.Classes.{class_of, is_same}
use Rattle.rev_expressions.specs.Source.{word_of, text_of, int_of}
use Rattle.rev_expressions.specs.Classes as class

-- a number that a token of a text has
abbrev pub IsNumber : ℤ → Type 0
IsNumber z = (m : ℕ) × (z ≡ pos m) × (m ≤ greatest)

-- no number is too large
abbrev pub IsWithinRange : TokenKind → Type 0
IsWithinRange (k.Int n) = IsTrue (fits_i64 n)
IsWithinRange _ = Unit {0}

pub record IsProper (bytes : List ℕ) (t : Token) : Type 0 where
  pub spelled : IsToken bytes t
  pub some : t.start < t.end
  pub inside : t.end ≤ length bytes
  pub fits : IsWithinRange t.kind

-- the bytes of a token, and of tokens
abbrev pub span : Token → ℕ
span t = t.end - t.start

abbrev pub spans : List Token → ℕ
spans [] = 0
spans (t ∷ ts) = span t + spans ts

abbrev pub AreProper : List ℕ → List Token → Type 0
AreProper bytes [] = Unit {0}
AreProper bytes (t ∷ ts) = IsProper bytes t × AreProper bytes ts

-- ---- parts of tokens

pub proper_front : (bytes : List ℕ) (u v : List Token) → AreProper bytes (u ++ v) → AreProper bytes u
proper_front bytes [] v h = tt
proper_front bytes (t ∷ u) v h = (h.0, proper_front bytes u v h.1)

pub proper_back : (bytes : List ℕ) (u v : List Token) → AreProper bytes (u ++ v) → AreProper bytes v
proper_back bytes [] v h = h
proper_back bytes (t ∷ u) v h = proper_back bytes u v h.1

pub spans-append : (u v : List Token) → spans (u ++ v) ≡ spans u + spans v
spans-append [] v = omega arith
spans-append (t ∷ u) v = let e = spans-append u v in omega arith

-- ---- the tokens of a text

end_inside : (from : ℕ) (t : Token) (ts : List Token) (to : ℕ) → Ascend from (t ∷ ts) to → t.end ≤ to
end_inside from t [] to a = a.2
end_inside from t (x ∷ ts) to a =
    let last = end_inside t.end x ts to a.2 in
    let next : t.end ≤ x.start = a.2.0 in
    let some : x.start < x.end = a.2.1 in
    omega arith

pub ascend_spans : (from : ℕ) (ts : List Token) (to : ℕ) → Ascend from ts to → from + spans ts ≤ to
ascend_spans from [] to a = omega arith
ascend_spans from (t ∷ ts) to a =
    let rest = ascend_spans t.end ts to a.2 in
    let first : from ≤ t.start = a.0 in
    let some : t.start < t.end = a.1 in
    omega arith

abbrev AreWithinRange : List Token → Type 0
AreWithinRange [] = Unit {0}
AreWithinRange (t ∷ ts) = IsWithinRange t.kind × AreWithinRange ts

sound_kind : (kd : TokenKind) (rest : List ℕ) → IsSound (piece.Token kd) rest → IsWithinRange kd
sound_kind (k.Int n) rest h = h.0
sound_kind _ rest h = tt

sound_piece : (kd : PieceKind) (rest : List ℕ) (at end : ℕ) (ts : List Token) → IsSound kd rest → AreWithinRange ts
    → AreWithinRange (token_of kd at end ++ ts)
sound_piece piece.WhiteSpace rest at end ts h a = a
sound_piece piece.Comment rest at end ts h a = a
sound_piece (piece.Token kd) rest at end ts h a = (sound_kind kd rest h, a)

sound_pieces : (ps : List Piece) (s end : List ℕ) (at : ℕ) → Leads ps s end → AreWithinRange (tokens_of at ps)
sound_pieces [] s end at l = tt
sound_pieces (p ∷ ps) s end at l =
    sound_piece p.kind l.0 at (at + length p.bytes) (tokens_of (at + length p.bytes) ps) l.1.sound
    (sound_pieces ps l.0 end (at + length p.bytes) l.2)

all_proper : (bytes : List ℕ) (from : ℕ) (ts : List Token) → Ascend from ts (length bytes) → All (IsToken bytes) ts
    → AreWithinRange ts → AreProper bytes ts
all_proper bytes from [] a h r = tt
all_proper bytes from (t ∷ ts) a h r = (
  record {
    spelled = All-head (IsToken bytes) t ts h;
    some = a.1;
    inside = end_inside from t ts (length bytes) a;
    fits = r.0;
  },
  all_proper bytes t.end ts a.2 (All-tail (IsToken bytes) t ts h) r.1,
)

pub text_tokens : (bytes : List ℕ) (ts : List Token) → IsTokens bytes ts → AreProper bytes ts
text_tokens bytes ts h =
    all_proper bytes 0 ts (tokens-ascend bytes ts h) (tokens-kinds bytes ts h)
    (subst AreWithinRange (sym h.tokens) (sound_pieces h.pieces bytes [] 0 h.leads))

pub text_spans : (bytes : List ℕ) (ts : List Token) → IsTokens bytes ts → spans ts ≤ length bytes
text_spans bytes ts h = let a = ascend_spans 0 ts (length bytes) (tokens-ascend bytes ts h) in omega arith

-- ---- what a token of a kind is

name_kind : (kd : TokenKind) (w : List ℕ) → is_same class.name (class_of kd) ≡ true → Spells (piece.Token kd) w
    → IsTrue (is_name w)
name_kind k.Name w e h = h
name_kind _ w e h = absurd cc

pub proper_name : (bytes : List ℕ) (t : Token) → IsProper bytes t → is_same class.name (class_of t.kind) ≡ true
    → is_name (word_of bytes t).text ≡ true
proper_name bytes t h e = name_kind t.kind (slice_range bytes t.start t.end) e h.spelled

pub word_length : (bytes : List ℕ) (t : Token) → length (word_of bytes t).text ≤ span t
word_length bytes t = omega (arith, length-take (t.end - t.start) (drop t.start bytes))

small_number : (n : ℤ) (w : List ℕ) → IsUnsigned w n → IsTrue (fits_i64 n) → IsNumber n
small_number n w u fits =
    let below : nat_lt (spelled w) (2 ^ 63) ≡ true = subst (λ n. fits_i64 n ≡ true) u.value fits in
    (spelled w, u.value, omega (arith, ltb-true (spelled w) (2 ^ 63) below))

number_kind : (kd : TokenKind) (w : List ℕ) → is_same class.number (class_of kd) ≡ true → Spells (piece.Token kd) w
    → IsWithinRange kd → IsNumber (int_of kd)
number_kind (k.Int n) w e h r = small_number n w h r
number_kind _ w e h r = absurd cc

pub proper_number : (bytes : List ℕ) (t : Token) → IsProper bytes t → is_same class.number (class_of t.kind) ≡ true
    → IsNumber (int_of t.kind)
proper_number bytes t h e = number_kind t.kind (slice_range bytes t.start t.end) e h.spelled h.fits

text_kind : (kd : TokenKind) (w : List ℕ) → is_same class.text (class_of kd) ≡ true → Spells (piece.Token kd) w
    → IsQuoted w
text_kind k.Text w e h = h
text_kind _ w e h = absurd cc

-- what stands between the first and the last byte
between : (l body : List ℕ) (n : ℕ) → take n l ≡ 34 ∷ (body ++ 34 ∷ []) → n ≤ length l → take (n - 2) (drop 1 l) ≡ body
between l body n e h =
    let whole : length (take n l) ≡ n = length-take-le n l h in
    let count : length (34 ∷ (body ++ 34 ∷ [])) ≡ suc (length body + 1) = ap suc (length-append body (34 ∷ [])) in
    let same : length (take n l) ≡ length (34 ∷ (body ++ 34 ∷ [])) = ap length e in
    let size : n ≡ 1 + (length body + 1) = omega arith in
    let less : n - 2 ≡ length body = omega arith in
    let behind : take (length body + 1) (drop 1 l) ≡ body ++ 34 ∷ [] =
    sym (drop-take 1 (length body + 1) l) ∙ ap (λ m. drop 1 (take m l)) (sym size) ∙ ap (drop 1) e in
    ap (λ m. take m (drop 1 l)) less ∙ sym (take-take (length body) (length body + 1) (drop 1 l) (omega arith))
    ∙ ap (take (length body)) behind ∙ take-append_seam body (34 ∷ [])

pub proper_text : (bytes : List ℕ) (t : Token) → IsProper bytes t → is_same class.text (class_of t.kind) ≡ true
    → list_all is_text_byte (text_of bytes t) ≡ true
proper_text bytes t h e =
    let some : t.start < t.end = h.some in
    let inside : t.end ≤ length bytes = h.inside in
    let quoted = text_kind t.kind (slice_range bytes t.start t.end) e h.spelled in
    let room : t.end - t.start ≤ length (drop t.start bytes) = omega (arith, length-drop t.start bytes) in
    let body : take (t.end - t.start - 2) (drop 1 (drop t.start bytes)) ≡ quoted.body =
    between (drop t.start bytes) quoted.body (t.end - t.start) quoted.quotes room in
    let count : t.end - 1 - (t.start + 1) ≡ t.end - t.start - 2 = omega arith in
    let same : text_of bytes t ≡ quoted.body =
    ap (λ n. take n (drop (t.start + 1) bytes)) count
    ∙ ap (take (t.end - t.start - 2)) (sym (drop-drop 1 t.start bytes)) ∙ body in
    subst (λ l. list_all is_text_byte l ≡ true) (sym same) quoted.inside

pub text_length : (bytes : List ℕ) (t : Token) → length (text_of bytes t) ≤ span t
text_length bytes t = omega (arith, length-take (t.end - 1 - (t.start + 1)) (drop (t.start + 1) bytes))

-- Texts in chunks, each with the pieces that it is cut into whatever stands behind it.
--   Chunk        a text and its pieces
--   IsCut        the pieces are cut off the text, and what stands behind it is left
--   tokens_in    the tokens of chunks in a row, before others
--   seen, named  the name at a piece, as it is read in a text, and as the piece is spelled
--   HasPieces    the text has the bytes of these pieces at this place
use Rattle.std.proofs.Common.{◌≡◌, ℕ, zero, suc, ◌+◌, ◌-◌, List, [], ◌∷◌, ◌++◌, length, take, drop, refl, sym, ap, ◌∙◌, subst, arith}
use Rattle.std.specs.Prelude.{Option, Some, None}
use Rattle.std.proofs.lemmas.List.{append_assoc, length-append}
use Rattle.std.proofs.Math.Seq.{take-append_seam, drop-append_seam}
use Rattle.rev_syntax.specs.declared.token.Token.{Token}
use Rattle.rev_syntax.specs.declared.token.TokenKind.TheVariants as k
use Rattle.rev_syntax.specs.Tokens.{Piece, Leads, array_size, tokens_of}
use Rattle.rev_syntax.specs.Trees.{PlacedName}
use Rattle.rev_expressions.specs.Source.{slice, word_of}
use Rattle.program_texts.proofs.Cuts.{cut_some, leads_append, tokens_append}

-- ---- chunks

pub record Chunk : Type 0 where
  pub text : List ℕ
  pub pieces : List Piece

abbrev pub IsCut : Chunk → Type 0
IsCut c = (more : List ℕ) → Leads c.pieces (c.text ++ more) more

abbrev pieces_in : Option (List Piece × List ℕ) → List Piece
pieces_in None = []
pieces_in (Some x) = x.0

-- the chunk of this text, which has so many pieces
abbrev pub chunk : ℕ → List ℕ → Chunk
chunk n w = record { text = w; pieces = pieces_in (cut_some n w) }

abbrev pub text_of : List Chunk → List ℕ
text_of [] = []
text_of (c ∷ cs) = c.text ++ text_of cs

abbrev pub pieces_of : List Chunk → List Piece
pieces_of [] = []
pieces_of (c ∷ cs) = c.pieces ++ pieces_of cs

abbrev pub AllCut : List Chunk → Type 0
AllCut [] = Unit {0}
AllCut (c ∷ cs) = IsCut c × AllCut cs

pub all_leads : (cs : List Chunk) → AllCut cs → Leads (pieces_of cs) (text_of cs) []
all_leads [] h = refl
all_leads (c ∷ cs) h =
    leads_append c.pieces (pieces_of cs) (c.text ++ text_of cs) (text_of cs) [] (h.0 (text_of cs)) (all_leads cs h.1)

-- ---- their tokens

abbrev pub tokens_in : ℕ → List Chunk → List Token → List Token
tokens_in at [] rest = rest
tokens_in at (c ∷ cs) rest = tokens_of at c.pieces ++ tokens_in (at + array_size c.pieces) cs rest

pub tokens_of_all : (at : ℕ) (cs : List Chunk) → tokens_of at (pieces_of cs) ≡ tokens_in at cs []
tokens_of_all at [] = refl
tokens_of_all at (c ∷ cs) =
    tokens_append at c.pieces (pieces_of cs)
    ∙ ap (λ l. tokens_of at c.pieces ++ l) (tokens_of_all (at + array_size c.pieces) cs)

-- ---- names

-- where a piece begins
abbrev pub place : ℕ → List Piece → ℕ → ℕ
place at [] i = at
place at (p ∷ ps) zero = at
place at (p ∷ ps) (suc i) = place (at + length p.bytes) ps i

abbrev bytes_at : List Piece → ℕ → List ℕ
bytes_at [] i = []
bytes_at (p ∷ ps) zero = p.bytes
bytes_at (p ∷ ps) (suc i) = bytes_at ps i

abbrev pub seen : List ℕ → ℕ → List Piece → ℕ → PlacedName
seen bytes at ps i = word_of bytes (record { kind = k.Name; start = place at ps i; end = place at ps (suc i) })

abbrev pub named : ℕ → List Piece → ℕ → PlacedName
named at ps i = record { at = place at ps i; text = bytes_at ps i }

abbrev pub HasPieces : List ℕ → ℕ → List Piece → Type 0
HasPieces bytes at [] = Unit {0}
HasPieces bytes at (p ∷ ps) =
    (slice bytes at (at + length p.bytes) ≡ p.bytes) × HasPieces bytes (at + length p.bytes) ps

none_between : (bytes : List ℕ) (at : ℕ) → slice bytes at at ≡ []
none_between bytes at = let z : at - at ≡ 0 = omega arith in ap (λ n. take n (drop at bytes)) z

start_of : (at : ℕ) (ps : List Piece) → place at ps 0 ≡ at
start_of at [] = refl
start_of at (p ∷ ps) = refl

has_bytes : (bytes : List ℕ) (at : ℕ) (ps : List Piece) → HasPieces bytes at ps → (i : ℕ)
    → slice bytes (place at ps i) (place at ps (suc i)) ≡ bytes_at ps i
has_bytes bytes at [] h i = none_between bytes at
has_bytes bytes at (p ∷ ps) h zero = ap (slice bytes at) (start_of (at + length p.bytes) ps) ∙ h.0
has_bytes bytes at (p ∷ ps) h (suc i) = has_bytes bytes (at + length p.bytes) ps h.1 i

-- the names that are read are those that the pieces spell
pub as_named : (bytes : List ℕ) (at : ℕ) (ps : List Piece) → HasPieces bytes at ps → seen bytes at ps ≡ named at ps
as_named bytes at ps h = λ j i. record { at = place at ps i; text = has_bytes bytes at ps h i j }

-- ---- the pieces of a text at their places

middle : (front w rest : List ℕ) → slice (front ++ (w ++ rest)) (length front) (length front + length w) ≡ w
middle front w rest =
    let e : length front + length w - length front ≡ length w = omega arith in
    rw (e, drop-append_seam, take-append_seam) refl

pub has_pieces : (ps : List Piece) (front s end : List ℕ) → Leads ps s end → HasPieces (front ++ s) (length front) ps
has_pieces [] front s end l = tt
has_pieces (p ∷ ps) front s end l =
    let w = p.bytes in
    let whole : front ++ s ≡ front ++ (w ++ l.0) = ap (λ v. front ++ v) l.1.split in
    let next : length (front ++ w) ≡ length front + length w = length-append front w in
    let r : HasPieces ((front ++ w) ++ l.0) (length (front ++ w)) ps = has_pieces ps (front ++ w) l.0 end l.2 in
    let more : HasPieces (front ++ s) (length front + length w) ps =
    subst (λ v. HasPieces v (length front + length w) ps) (append_assoc front w l.0 ∙ sym whole)
    (subst (λ n. HasPieces ((front ++ w) ++ l.0) n ps) next r) in
    (ap (λ v. slice v (length front) (length front + length w)) whole ∙ middle front w l.0, more)

abbrev pub HasIn : List ℕ → ℕ → List Chunk → Type 0
HasIn bytes at [] = Unit {0}
HasIn bytes at (c ∷ cs) = HasPieces bytes at c.pieces × HasIn bytes (at + array_size c.pieces) cs

has_split : (bytes : List ℕ) (at : ℕ) (ps qs : List Piece) → HasPieces bytes at (ps ++ qs)
    → HasPieces bytes at ps × HasPieces bytes (at + array_size ps) qs
has_split bytes at [] qs h = let z : at + 0 ≡ at = omega arith in (tt, subst (λ n. HasPieces bytes n qs) (sym z) h)
has_split bytes at (p ∷ ps) qs h =
    let r = has_split bytes (at + length p.bytes) ps qs h.1 in
    let e : at + length p.bytes + array_size ps ≡ at + (length p.bytes + array_size ps) = omega arith in
    ((h.0, r.0), subst (λ n. HasPieces bytes n qs) e r.1)

pub has_in : (bytes : List ℕ) (at : ℕ) (cs : List Chunk) → HasPieces bytes at (pieces_of cs) → HasIn bytes at cs
has_in bytes at [] h = tt
has_in bytes at (c ∷ cs) h =
    let r = has_split bytes at c.pieces (pieces_of cs) h in (r.0, has_in bytes (at + array_size c.pieces) cs r.1)

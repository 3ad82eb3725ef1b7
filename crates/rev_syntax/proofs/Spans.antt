-- The spans of the tokens of a text ascend, and the bytes of each are of its kind.
use Rattle.std.proofs.Common.{◌≡◌, ℕ, ◌+◌, ◌-◌, ◌<◌, ◌≤◌, List, [], ◌∷◌, ◌++◌, length, refl, sym, ap, subst, arith}
use Rattle.std.specs.Prelude.{All, slice_range}
use Rattle.std.proofs.lemmas.List.{append_assoc, length-append}
use Rattle.std.proofs.lemmas.List.Elements.{All-cons}
use Rattle.std.proofs.Math.Seq.{take-append_seam, drop-append_seam}
use Rattle.rev_syntax.specs.declared.token.Token.{Token}
use Rattle.rev_syntax.specs.declared.token.PieceKind.{PieceKind}
use Rattle.rev_syntax.specs.declared.token.PieceKind.TheVariants as piece
use Rattle.rev_syntax.specs.Tokens.{Spells, Piece, Leads, array_size, token_of, tokens_of, IsTokens, Ascend, IsToken}
use Rattle.rev_syntax.proofs.PieceKinds.{spells-some}

piece-some : (k : PieceKind) (w : List ℕ) → Spells k w → 0 < length w
piece-some k [] h = absurd (spells-some k h)
piece-some k (b ∷ w) h = omega arith

ascend-lower : (low from : ℕ) (ts : List Token) (to : ℕ) → low ≤ from → Ascend from ts to → Ascend low ts to
ascend-lower low from [] to h a = omega arith
ascend-lower low from (t ∷ ts) to h a = let b : from ≤ t.start = a.0 in (omega arith, a.1, a.2)

ascend-piece : (k : PieceKind) (at end : ℕ) (ts : List Token) (to : ℕ) → at < end → Ascend end ts to
    → Ascend at (token_of k at end ++ ts) to
ascend-piece piece.WhiteSpace at end ts to h a = ascend-lower at end ts to (omega arith) a
ascend-piece piece.Comment at end ts to h a = ascend-lower at end ts to (omega arith) a
ascend-piece (piece.Token k) at end ts to h a = (omega arith, h, a)

ascend-pieces : (ps : List Piece) (s end : List ℕ) (at : ℕ) → Leads ps s end
    → Ascend at (tokens_of at ps) (at + array_size ps)
ascend-pieces [] s end at l = omega arith
ascend-pieces (p ∷ ps) s end at l =
    let some = piece-some p.kind p.bytes l.1.longest.spells in
    let next = at + length p.bytes in
    let e : next + array_size ps ≡ at + (length p.bytes + array_size ps) = omega arith in
    let r = rw e at (ascend-pieces ps l.0 end next l.2) in
    ascend-piece p.kind at next (tokens_of next ps) (at + (length p.bytes + array_size ps)) (omega arith) r

pub tokens-ascend : (s : List ℕ) (ts : List Token) → IsTokens s ts → Ascend 0 ts (length s)
tokens-ascend s ts c =
    let e : 0 + array_size c.pieces ≡ length s = let f : length s ≡ array_size c.pieces = c.place in omega arith in
    let a = rw e at (ascend-pieces c.pieces s [] 0 c.leads) in
    rw c.tokens a

middle : (front w rest : List ℕ) → slice_range (front ++ (w ++ rest)) (length front) (length front + length w) ≡ w
middle front w rest =
    let e : length front + length w - length front ≡ length w = omega arith in
    rw (e, drop-append_seam, take-append_seam) refl

kind-piece : (k : PieceKind) (s : List ℕ) (at end : ℕ) (ts : List Token) → Spells k (slice_range s at end)
    → All (IsToken s) ts → All (IsToken s) (token_of k at end ++ ts)
kind-piece piece.WhiteSpace s at end ts h a = a
kind-piece piece.Comment s at end ts h a = a
kind-piece (piece.Token k) s at end ts h a = All-cons (IsToken s) (record { kind = k; start = at; end = end }) ts h a

kind-pieces : (ps : List Piece) (front s end : List ℕ) → Leads ps s end
    → All (IsToken (front ++ s)) (tokens_of (length front) ps)
kind-pieces [] front s end l = λ n d lt. absurd (omega arith)
kind-pieces (p ∷ ps) front s end l =
    let w = p.bytes in
    let whole : front ++ s ≡ front ++ (w ++ l.0) = ap (λ (v : List ℕ). front ++ v) l.1.split in
    let next : length (front ++ w) ≡ length front + length w = length-append front w in
    let r : All (IsToken ((front ++ w) ++ l.0)) (tokens_of (length (front ++ w)) ps) =
    kind-pieces ps (front ++ w) l.0 end l.2 in
    let more : All (IsToken (front ++ s)) (tokens_of (length front + length w) ps) =
    rw (whole, ← next, ← append_assoc) r in
    let same : slice_range (front ++ s) (length front) (length front + length w) ≡ w = rw whole (middle front w l.0) in
    kind-piece p.kind (front ++ s) (length front) (length front + length w) (tokens_of (length front + length w) ps)
    (subst (λ (v : List ℕ). Spells p.kind v) (sym same) l.1.longest.spells) more

pub tokens-kinds : (s : List ℕ) (ts : List Token) → IsTokens s ts → All (IsToken s) ts
tokens-kinds s ts c = rw c.tokens (kind-pieces c.pieces [] s [] c.leads)

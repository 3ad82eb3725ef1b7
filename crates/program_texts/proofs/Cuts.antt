-- A text is cut into pieces by its scanner, some pieces at a time.
--   cut_some     the first pieces of a text, so many of them, and the rest
--   Leads        pieces behind pieces, and what two ways to cut a text have in common
--   tokens_of    the tokens of pieces behind pieces
use Rattle.std.proofs.Common.{◌≡◌, ℕ, zero, suc, ◌+◌, ◌≤◌, List, [], ◌∷◌, ◌++◌, length, take, drop, refl, sym, ap, ◌∙◌, subst, arith}
use Rattle.std.specs.Prelude.{Option, Some, None, Ok, Err}
use Rattle.std.proofs.lemmas.List.{append_assoc, append_cancel_left}
use Rattle.std.proofs.Math.Seq.{take-append_seam}
use Rattle.rev_syntax.specs.Tokens.{Spells, Piece, Leads, Next, array_size, token_of, tokens_of}
use Rattle.rev_syntax.specs.Scan.{Scanned, scan_from, piece_at, Answers}
use Rattle.rev_syntax.proofs.Exact.{exact}
use Rattle.rev_syntax.proofs.PieceKinds.{one-kind, spells-some}

-- ---- the scanner, some pieces at a time

abbrev pub SomeCut : Type 0
SomeCut = Option (List Piece × List ℕ)

abbrev pub next_cut : (Piece → List ℕ → SomeCut) → List ℕ → Scanned → SomeCut
next_cut go s (Ok c) = go (piece_at c s) (drop c.length s)
next_cut go s (Err f) = None

abbrev pub behind : Piece → SomeCut → SomeCut
behind p None = None
behind p (Some x) = Some (p ∷ x.0, x.1)

abbrev pub cut_some : ℕ → List ℕ → SomeCut
cut_some zero s = Some ([], s)
cut_some (suc n) [] = None
cut_some (suc n) (b ∷ bs) = next_cut (λ p rest. behind p (cut_some n rest)) (b ∷ bs) (scan_from 0 b bs)

abbrev Sound : List ℕ → SomeCut → Type 0
Sound s None = Unit {0}
Sound s (Some x) = Leads x.0 s x.1

sound_behind : (s : List ℕ) (p : Piece) (rest : List ℕ) (o : SomeCut) → Next s p rest → Sound rest o
    → Sound s (behind p o)
sound_behind s p rest None n h = tt
sound_behind s p rest (Some x) n h = (rest, n, h)

cut_sound : (n : ℕ) (s : List ℕ) → Sound s (cut_some n s)
cut_sound zero s = refl
cut_sound (suc n) [] = tt
cut_sound (suc n) (b ∷ bs) = by_answer (cut_some n) (cut_sound n) (scan_from 0 b bs) (exact 0 b bs)
  where
    by_answer : (go : List ℕ → SomeCut) → ((rest : List ℕ) → Sound rest (go rest)) → (r : Scanned)
        → Answers 0 (b ∷ bs) r → Sound (b ∷ bs) (next_cut (λ p rest. behind p (go rest)) (b ∷ bs) r)
    by_answer go each (Ok c) a =
        sound_behind (b ∷ bs) (piece_at c (b ∷ bs)) (drop c.length (b ∷ bs)) (go (drop c.length (b ∷ bs))) a.0
        (each (drop c.length (b ∷ bs)))
    by_answer go each (Err f) a = tt

-- so these pieces lead from the text to the rest
pub cut_leads : (n : ℕ) (s : List ℕ) (ps : List Piece) (rest : List ℕ) → cut_some n s ≡ Some (ps, rest)
    → Leads ps s rest
cut_leads n s ps rest is = subst (Sound s) is (cut_sound n s)

-- ---- pieces behind pieces

pub leads_append : (ps qs : List Piece) (s middle end : List ℕ) → Leads ps s middle → Leads qs middle end
    → Leads (ps ++ qs) s end
leads_append [] qs s middle end e m = subst (λ v. Leads qs v end) (sym e) m
leads_append (p ∷ ps) qs s middle end l m = (l.0, l.1, leads_append ps qs l.0 middle end l.2 m)

pub tokens_append : (at : ℕ) (ps qs : List Piece)
    → tokens_of at (ps ++ qs) ≡ tokens_of at ps ++ tokens_of (at + array_size ps) qs
tokens_append at [] qs = let z : at + 0 ≡ at = omega arith in ap (λ n. tokens_of n qs) (sym z)
tokens_append at (p ∷ ps) qs =
    let next = at + length p.bytes in
    let e : next + array_size ps ≡ at + (length p.bytes + array_size ps) = omega arith in
    ap (λ l. token_of p.kind at next ++ l) (tokens_append next ps qs ∙ ap (λ n. tokens_of next ps ++ tokens_of n qs) e)
    ∙ sym (append_assoc (token_of p.kind at next) (tokens_of next ps)
    (tokens_of (at + (length p.bytes + array_size ps)) qs))

-- ---- two ways to cut a text

-- two longest pieces are one
one_next : (s : List ℕ) (p q : Piece) (a b : List ℕ) → Next s p a → Next s q b → (p ≡ q) × (a ≡ b)
one_next s p q a b m n =
    let x : length q.bytes ≤ length p.bytes = m.longest.longest q b n.longest.spells n.split in
    let y : length p.bytes ≤ length q.bytes = n.longest.longest p a m.longest.spells m.split in
    let size : length p.bytes ≡ length q.bytes = omega (arith, x, y) in
    let v : take (length p.bytes) s ≡ p.bytes = ap (take (length p.bytes)) m.split ∙ take-append_seam p.bytes a in
    let w : take (length q.bytes) s ≡ q.bytes = ap (take (length q.bytes)) n.split ∙ take-append_seam q.bytes b in
    let bytes : p.bytes ≡ q.bytes = sym v ∙ ap (λ i. take i s) size ∙ w in
    let here : Spells p.kind q.bytes = subst (Spells p.kind) bytes m.longest.spells in
    let kind = one-kind p.kind q.kind q.bytes here n.longest.spells in
    let rests : q.bytes ++ a ≡ q.bytes ++ b = ap (λ l. l ++ a) (sym bytes) ∙ sym m.split ∙ n.split in
    (λ i. record { kind = kind i; bytes = bytes i }, append_cancel_left q.bytes a b rests)

no_next : (s : List ℕ) (p : Piece) (rest : List ℕ) → Next s p rest → s ≡ [] → ⊥
no_next s p rest n none = by_bytes p.bytes n.longest.spells (sym n.split ∙ none)
  where
    by_bytes : (w : List ℕ) → Spells p.kind w → w ++ rest ≡ [] → ⊥
    by_bytes [] spells e = spells-some p.kind spells
    by_bytes (b ∷ w) spells e = cc

pub record GoesOn (ps qs : List Piece) (rest : List ℕ) : Type 0 where
  pub more : List Piece
  pub is : ps ≡ qs ++ more
  pub leads : Leads more rest []

-- pieces with which the text begins are the first of all its pieces
pub begins_with : (qs ps : List Piece) (s rest : List ℕ) → Leads ps s [] → Leads qs s rest → GoesOn ps qs rest
begins_with [] ps s rest l m = record { more = ps; is = refl; leads = subst (λ v. Leads ps v []) m l }
begins_with (q ∷ qs) [] s rest l m = absurd (no_next s q m.0 m.1 l)
begins_with (q ∷ qs) (p ∷ ps) s rest l m =
    let one = one_next s p q l.0 m.0 l.1 m.1 in
    let g = begins_with qs ps m.0 rest (subst (λ v. Leads ps v []) one.1 l.2) m.2 in
    record { more = g.more; is = ap (λ x. x ∷ ps) one.0 ∙ ap (λ l. q ∷ l) g.is; leads = g.leads }

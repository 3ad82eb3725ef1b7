-- Pieces in a row: one more, and only one way to cut a text.
use Rattle.std.proofs.Common.{◌≡◌, ℕ, ◌+◌, ◌-◌, ◌≤◌, List, [], ◌∷◌, ◌++◌, length, take, drop, refl, sym, ap, ◌∙◌, subst, arith}
use Rattle.std.proofs.lemmas.List.{append_assoc, append-nil, length-append, length-take-le, length-drop, drop-drop}
use Rattle.std.proofs.Math.Seq.{drop-length, take-length}
use Rattle.rev_syntax.specs.declared.token.Token.{Token}
use Rattle.rev_syntax.specs.declared.token.PieceKind.{PieceKind}
use Rattle.rev_syntax.specs.Tokens.{Piece, Next, Leads, array_size, tokens_of, token_of, CutTo}

leads-more : (ps : List Piece) (s middle rest : List ℕ) (p : Piece) → Leads ps s middle → Next middle p rest
    → Leads (ps ++ p ∷ []) s rest
leads-more [] s middle rest p e n = (rest, subst (λ (v : List ℕ). Next v p rest) (sym e) n, refl)
leads-more (q ∷ qs) s middle rest p l n = (l.0, l.1, leads-more qs l.0 middle rest p l.2 n)

array_size-more : (ps : List Piece) (p : Piece) → array_size (ps ++ p ∷ []) ≡ array_size ps + length p.bytes
array_size-more [] p = omega arith
array_size-more (q ∷ qs) p = let r = array_size-more qs p in omega arith

tokens_of-more : (at : ℕ) (ps : List Piece) (p : Piece)
    → tokens_of at (ps ++ p ∷ [])
    ≡ tokens_of at ps ++ token_of p.kind (at + array_size ps) (at + array_size ps + length p.bytes)
tokens_of-more at [] p = let z : at + 0 ≡ at = omega arith in rw (z, append-nil) refl
tokens_of-more at (q ∷ qs) p =
    let next = at + length q.bytes in
    let r = tokens_of-more next qs p in
    let e : next + array_size qs ≡ at + (length q.bytes + array_size qs) = omega arith in
    rw (r, e) (sym (append_assoc (token_of q.kind at next) (tokens_of next qs)
    (token_of p.kind (at + (length q.bytes + array_size qs)) (at + (length q.bytes + array_size qs) + length p.bytes))))

pub cut-start : (s : List ℕ) → CutTo s 0 s []
cut-start s = record { pieces = []; leads = refl; place = refl; tokens = refl }

pub cut-more : (s : List ℕ) (at : ℕ) (rest after : List ℕ) (ts : List Token) (p : Piece) → CutTo s at rest ts
    → Next rest p after → CutTo s (at + length p.bytes) after (ts ++ token_of p.kind at (at + length p.bytes))
cut-more s at rest after ts p c n = record {
  pieces = c.pieces ++ p ∷ [];
  leads = leads-more c.pieces s rest after p c.leads n;
  place = let e = array_size-more c.pieces p in let f : at ≡ array_size c.pieces = c.place in omega arith;
  tokens =
      let e : 0 + array_size c.pieces ≡ at = let f : at ≡ array_size c.pieces = c.place in omega arith in
      let t : tokens_of 0 (c.pieces ++ p ∷ []) ≡ tokens_of 0 c.pieces ++ token_of p.kind at (at + length p.bytes) =
      rw e at (tokens_of-more 0 c.pieces p) in
      rw (c.tokens, t) refl;
}

-- the rest of a text, as a slice that goes on to its end
pub slice-rest : (s : List ℕ) (at : ℕ) → take (length s - at) (drop at s) ≡ drop at s
slice-rest s at = rw (← length-drop at s) (take-length (drop at s))

-- the same, where the piece is the first n bytes of the rest
pub cut-drop : (s : List ℕ) (at n : ℕ) (f : PieceKind) (ts : List Token) → CutTo s at (drop at s) ts → (r : List ℕ)
    → r ≡ drop at s → Next r (record { kind = f; bytes = take n r }) (drop n r) → n ≤ length r
    → CutTo s (at + n) (drop (at + n) s) (ts ++ token_of f at (at + n))
cut-drop s at n f ts c r e next fits =
    let l : length (take n r) ≡ n = length-take-le n r fits in
    let d : drop n r ≡ drop (at + n) s = ap (λ (v : List ℕ). drop n v) e ∙ drop-drop n at s in
    let from : CutTo s at r ts = rw e c in
    let m = cut-more s at r (drop n r) ts (record { kind = f; bytes = take n r }) from next in
    rw (l, d) at m

pub leads-within : (ps : List Piece) (s end : List ℕ) → Leads ps s end → length s ≡ array_size ps + length end
leads-within [] s end e = let r : length s ≡ length end = ap (λ (v : List ℕ). length v) e in omega arith
leads-within (p ∷ ps) s end l =
    let r = leads-within ps l.0 end l.2 in
    let a : length s ≡ length p.bytes + length l.0 =
    ap (λ (v : List ℕ). length v) l.1.split ∙ length-append p.bytes l.0 in
    omega arith

-- What is cut up to its end is the whole text.
pub cut-whole : (s : List ℕ) (at : ℕ) (ts : List Token) → length s ≤ at → CutTo s at (drop at s) ts
    → CutTo s (length s) [] ts
cut-whole s at ts h c =
    let l : length s ≡ array_size c.pieces + length (drop at s) = leads-within c.pieces s (drop at s) c.leads in
    let f : at ≡ array_size c.pieces = c.place in
    let e : at ≡ length s = omega arith in
    let none : drop at s ≡ [] = rw e (drop-length s) in
    rw (none, e) at c

-- A text has tokens or a first fault, and there is one way to cut it.
use Rattle.std.proofs.Common.{◌≡◌, ◌⊎◌, ℕ, zero, suc, ◌+◌, ◌-◌, ◌<◌, ◌≤◌, true, false, not, List, [], ◌∷◌, ◌++◌, length, take, drop, refl, sym, ap, ◌∙◌, subst, arith, inl, inr}
use Rattle.std.specs.Prelude.{◌==◌, Ok, Err}
use Rattle.std.specs.List.{prefix_len}
use Rattle.std.proofs.lemmas.List.{append_assoc, length-drop}
use Rattle.std.proofs.Math.Seq.{take-append_seam, drop-append_seam}
use Rattle.rev_syntax.specs.declared.token.Token.{Token}
use Rattle.rev_syntax.specs.declared.token.PieceKind.{PieceKind}
use Rattle.rev_syntax.specs.declared.scan.LexFault.{LexFault}
use Rattle.rev_syntax.specs.declared.scan.LexFault.TheVariants as fault
use Rattle.rev_syntax.specs.Bytes.{is_text_byte}
use Rattle.rev_syntax.specs.Tokens.{Spells, IsQuoted, Piece, IsLongest, IsSound, Next, Leads, array_size, token_of, tokens_of, CutTo, IsTokens, BeginsNone, IsBadByte, IsBadNumber, IsOpenText, is_cut_off, Stops, IsFirstFault}
use Rattle.rev_syntax.specs.Scan.{scan_from, Scanned, Answers, piece_at}
use Rattle.rev_syntax.proofs.Lists.{both, off, first_passes, exact-prefix}
use Rattle.rev_syntax.proofs.PieceKinds.{quote, from-lead, spells-some, one-kind}
use Rattle.rev_syntax.proofs.Exact.{none-from, exact}
use Rattle.rev_syntax.proofs.Reading.{cut-start, cut-more, leads-within}

-- Two longest pieces are one.
longest-same : (s : List ℕ) (p q : Piece) (a b : List ℕ) → s ≡ p.bytes ++ a → IsLongest s p → s ≡ q.bytes ++ b
    → IsLongest s q → (p ≡ q) × (a ≡ b)
longest-same s p q a b e l f m =
    let x : length q.bytes ≤ length p.bytes = l.longest q b m.spells f in
    let y : length p.bytes ≤ length q.bytes = m.longest p a l.spells e in
    let n : length p.bytes ≡ length q.bytes = omega arith in
    let v : take (length p.bytes) s ≡ p.bytes = rw e (take-append_seam p.bytes a) in
    let w : take (length q.bytes) s ≡ q.bytes = rw f (take-append_seam q.bytes b) in
    let t : drop (length p.bytes) s ≡ a = rw e (drop-append_seam p.bytes a) in
    let u : drop (length q.bytes) s ≡ b = rw f (drop-append_seam q.bytes b) in
    let bytes : p.bytes ≡ q.bytes = sym v ∙ ap (λ (i : ℕ). take i s) n ∙ w in
    let here : Spells p.kind q.bytes = subst (λ (z : List ℕ). Spells p.kind z) bytes l.spells in
    let kind = one-kind p.kind q.kind q.bytes here m.spells in
    (λ i. record { kind = kind i; bytes = bytes i }, sym t ∙ ap (λ (i : ℕ). drop i s) n ∙ u)

next-same : (s : List ℕ) (p q : Piece) (a b : List ℕ) → Next s p a → Next s q b → (p ≡ q) × (a ≡ b)
next-same s p q a b m n = longest-same s p q a b m.split m.longest n.split n.longest

-- no piece comes next
abbrev Stuck : List ℕ → Type 0
Stuck s = (p : Piece) (rest : List ℕ) → Next s p rest → ⊥

no-piece : (k : PieceKind) (w more : List ℕ) → Spells k w → [] ≡ w ++ more → ⊥
no-piece k [] more h e = spells-some k h
no-piece k (b ∷ w) more h e = cc

stuck-end : Stuck []
stuck-end p rest n = no-piece p.kind p.bytes rest n.longest.spells n.split

stuck-none : (s : List ℕ) → BeginsNone s → Stuck s
stuck-none s none p rest n = none p rest n.longest.spells n.split

cut_off-stops : (rest : List ℕ) → is_cut_off rest ≡ true → first_passes is_text_byte rest ≡ false
cut_off-stops [] h = refl
cut_off-stops (b ∷ bs) h = off (is_text_byte b) (both (not (is_text_byte b)) (not (b == 34)) h).0

-- A text that is not closed is no text in quotes.
open-not_closed : (s : List ℕ) (c more : List ℕ) → (h : IsOpenText s) → IsQuoted (34 ∷ c) → h.body ++ h.rest ≡ c ++ more
    → ⊥
open-not_closed s c more h q e =
    let body : c ≡ q.body ++ 34 ∷ [] = cc in
    let whole : h.body ++ h.rest ≡ q.body ++ (34 ∷ more) =
    e ∙ ap (λ (v : List ℕ). v ++ more) body ∙ append_assoc q.body (34 ∷ []) more in
    let m : prefix_len is_text_byte (h.body ++ h.rest) ≡ length h.body =
    exact-prefix is_text_byte h.body h.rest h.inside (cut_off-stops h.rest h.cut_off) in
    let n : prefix_len is_text_byte (q.body ++ (34 ∷ more)) ≡ length q.body =
    exact-prefix is_text_byte q.body (34 ∷ more) q.inside refl in
    let l : length h.body ≡ length q.body = sym m ∙ ap (prefix_len is_text_byte) whole ∙ n in
    let r : h.rest ≡ 34 ∷ more =
    sym (drop-append_seam h.body h.rest) ∙ ap (λ (v : List ℕ). drop (length h.body) v) whole
    ∙ ap (λ (i : ℕ). drop i (q.body ++ (34 ∷ more))) l ∙ drop-append_seam q.body (34 ∷ more) in
    let no : is_cut_off (34 ∷ more) ≡ true = subst (λ (v : List ℕ). is_cut_off v ≡ true) r h.cut_off in
    cc

open-none : (s : List ℕ) → IsOpenText s → BeginsNone s
open-none s h p more i e =
    none-from 34 (h.body ++ h.rest) (λ c v l j. open-not_closed s c v h (from-lead 34 c quote refl l) j) p.kind p.bytes
    more i (sym h.split ∙ e)

stuck-number : (s : List ℕ) → IsBadNumber s → Stuck s
stuck-number s h p rest n =
    let e = longest-same s h.number p h.rest rest h.split h.longest n.split n.longest in
    let sound : IsSound p.kind h.rest = subst (λ (v : List ℕ). IsSound p.kind v) (sym e.1) n.sound in
    h.unsound (subst (λ (q : Piece). IsSound q.kind h.rest) (sym e.0) sound)

-- Two ways to cut a text up to where no piece comes next are one.
leads-same : (ps qs : List Piece) (s a b : List ℕ) → Leads ps s a → Stuck a → Leads qs s b → Stuck b
    → (ps ≡ qs) × (a ≡ b)
leads-same [] [] s a b l x m y = (refl, sym l ∙ m)
leads-same [] (q ∷ qs) s a b l x m y = absurd (x q m.0 (subst (λ (v : List ℕ). Next v q m.0) l m.1))
leads-same (p ∷ ps) [] s a b l x m y = absurd (y p l.0 (subst (λ (v : List ℕ). Next v p l.0) m l.1))
leads-same (p ∷ ps) (q ∷ qs) s a b l x m y =
    let e = next-same s p q l.0 m.0 l.1 m.1 in
    let r = leads-same ps qs m.0 a b (subst (λ (v : List ℕ). Leads ps v a) e.1 l.2) x m.2 y in
    (λ i. e.0 i ∷ r.0 i, r.1)

pub record Same (s : List ℕ) (at : ℕ) (a : List ℕ) (ts : List Token) (up : ℕ) (b : List ℕ)
    (us : List Token) : Type 0 where
  pub place : at ≡ up
  pub rest : a ≡ b
  pub tokens : ts ≡ us

cut-same : (s : List ℕ) (at : ℕ) (a : List ℕ) (ts : List Token) (up : ℕ) (b : List ℕ) (us : List Token)
    → CutTo s at a ts → Stuck a → CutTo s up b us → Stuck b → Same s at a ts up b us
cut-same s at a ts up b us c x d y =
    let e = leads-same c.pieces d.pieces s a b c.leads x d.leads y in
    record {
      place = c.place ∙ ap array_size e.0 ∙ sym d.place;
      rest = e.1;
      tokens = c.tokens ∙ ap (tokens_of 0) e.0 ∙ sym d.tokens;
    }

pub one-list : (s : List ℕ) (ts us : List Token) → IsTokens s ts → IsTokens s us → ts ≡ us
one-list s ts us c d = (cut-same s (length s) [] ts (length s) [] us c stuck-end d stuck-end).tokens

-- Two faults of a text stand at one place.
stops-same : {P Q : List ℕ → Type 0} (s : List ℕ) (a b : ℕ) → ((r : List ℕ) → P r → Stuck r)
    → ((r : List ℕ) → Q r → Stuck r) → (h : Stops P s a) → (i : Stops Q s b) → (a ≡ b) × (h.rest ≡ i.rest)
stops-same s a b p q h i =
    let e = cut-same s a h.rest h.tokens b i.rest i.tokens h.before (p h.rest h.bad) i.before (q i.rest i.bad) in
    (e.place, e.rest)

stuck-byte : (s : List ℕ) → IsBadByte s → Stuck s
stuck-byte s h = stuck-none s h.none

stuck-open : (s : List ℕ) → IsOpenText s → Stuck s
stuck-open s h = stuck-none s (open-none s h)

byte-number : (s : List ℕ) → IsBadByte s → IsBadNumber s → ⊥
byte-number s b n = b.none n.number n.rest n.longest.spells n.split

byte-open : (s : List ℕ) → IsBadByte s → IsOpenText s → ⊥
byte-open s b o =
    let e : b.byte ∷ b.more ≡ 34 ∷ (o.body ++ o.rest) = sym b.split ∙ o.split in
    let f : b.byte ≡ 34 = cc in
    b.plain f

number-open : (s : List ℕ) → IsBadNumber s → IsOpenText s → ⊥
number-open s n o = open-none s o n.number n.rest n.longest.spells n.split

abbrev Differs : (List ℕ → Type 0) → (List ℕ → Type 0) → Type 0
Differs P Q = (r : List ℕ) → P r → Q r → ⊥

stops-differ : {P Q : List ℕ → Type 0} (s : List ℕ) (a b : ℕ) → ((r : List ℕ) → P r → Stuck r)
    → ((r : List ℕ) → Q r → Stuck r) → Differs P Q → Stops P s a → Stops Q s b → ⊥
stops-differ {P} {Q} s a b p q d h i =
    let e = stops-same {P = P} {Q = Q} s a b p q h i in d i.rest (subst P e.1 h.bad) i.bad

pub one-fault : (s : List ℕ) (f g : LexFault) → IsFirstFault s f → IsFirstFault s g → f ≡ g
one-fault s (fault.BadByte a) (fault.BadByte b) h i = ap fault.BadByte (stops-same s a b stuck-byte stuck-byte h i).0
one-fault s (fault.BadNumber a) (fault.BadNumber b) h i =
    ap fault.BadNumber (stops-same s a b stuck-number stuck-number h i).0
one-fault s (fault.OpenText a) (fault.OpenText b) h i = ap fault.OpenText (stops-same s a b stuck-open stuck-open h i).0
one-fault s (fault.BadByte a) (fault.BadNumber b) h i =
    absurd (stops-differ s a b stuck-byte stuck-number byte-number h i)
one-fault s (fault.BadByte a) (fault.OpenText b) h i = absurd (stops-differ s a b stuck-byte stuck-open byte-open h i)
one-fault s (fault.BadNumber a) (fault.OpenText b) h i =
    absurd (stops-differ s a b stuck-number stuck-open number-open h i)
one-fault s (fault.BadNumber a) (fault.BadByte b) h i =
    absurd (stops-differ s b a stuck-byte stuck-number byte-number i h)
one-fault s (fault.OpenText a) (fault.BadByte b) h i = absurd (stops-differ s b a stuck-byte stuck-open byte-open i h)
one-fault s (fault.OpenText a) (fault.BadNumber b) h i =
    absurd (stops-differ s b a stuck-number stuck-open number-open i h)
one-fault s fault.OutOfMemory g h i = absurd h
one-fault s f fault.OutOfMemory h i = absurd i

-- At the end of a text nothing is bad.
end-good : (P : List ℕ → Type 0) (s : List ℕ) (ts : List Token) (a : ℕ) → ((r : List ℕ) → P r → Stuck r) → (P [] → ⊥)
    → IsTokens s ts → Stops P s a → ⊥
end-good P s ts a p none c h =
    let e = cut-same s (length s) [] ts a h.rest h.tokens c stuck-end h.before (p h.rest h.bad) in
    none (subst P (sym e.rest) h.bad)

number-some : IsBadNumber [] → ⊥
number-some h = no-piece h.number.kind h.number.bytes h.rest h.longest.spells h.split

byte-some : IsBadByte [] → ⊥
byte-some h = let e : [] ≡ h.byte ∷ h.more = h.split in cc

open-some : IsOpenText [] → ⊥
open-some h = let e : [] ≡ 34 ∷ (h.body ++ h.rest) = h.split in cc

pub no-fault : (s : List ℕ) (ts : List Token) (f : LexFault) → IsTokens s ts → IsFirstFault s f → ⊥
no-fault s ts (fault.BadByte a) c h = end-good IsBadByte s ts a stuck-byte byte-some c h
no-fault s ts (fault.BadNumber a) c h = end-good IsBadNumber s ts a stuck-number number-some c h
no-fault s ts (fault.OpenText a) c h = end-good IsOpenText s ts a stuck-open open-some c h
no-fault s ts fault.OutOfMemory c h = h

-- where the scanner stops is the first fault
pub first-fault : (s : List ℕ) (at : ℕ) (r : List ℕ) (ts : List Token) (f : LexFault) → CutTo s at (drop at s) ts
    → r ≡ drop at s → Answers at r (Err f) → IsFirstFault s f
first-fault s at r ts (fault.BadByte a) c e h = rw h.0 (record { rest = r; tokens = ts; before = rw e c; bad = h.1 })
first-fault s at r ts (fault.BadNumber a) c e h = rw h.0 (record { rest = r; tokens = ts; before = rw e c; bad = h.1 })
first-fault s at r ts (fault.OpenText a) c e h = rw h.0 (record { rest = r; tokens = ts; before = rw e c; bad = h.1 })
first-fault s at r ts fault.OutOfMemory c e h = h

abbrev pub Reading : List ℕ → Type 0
Reading s = ((ts : List Token) × IsTokens s ts) ⊎ ((f : LexFault) × IsFirstFault s f)

cut-end : (s : List ℕ) (at : ℕ) (ts : List Token) → CutTo s at [] ts → IsTokens s ts
cut-end s at ts c =
    let l : length s ≡ array_size c.pieces + 0 = leads-within c.pieces s [] c.leads in
    let f : at ≡ array_size c.pieces = c.place in
    let e : at ≡ length s = omega arith in
    rw e at c

-- one more piece, or the first fault
reading-step : (n : ℕ) (s : List ℕ) (at b : ℕ) (bs : List ℕ) (ts : List Token) → length (b ∷ bs) ≤ suc n
    → CutTo s at (b ∷ bs) ts
    → ((up : ℕ) (rest : List ℕ) (us : List Token) → length rest ≤ n → CutTo s up rest us → Reading s) → (r : Scanned)
    → Answers at (b ∷ bs) r → Reading s
reading-step n s at b bs ts h c later (Ok x) a =
    let p = piece_at x (b ∷ bs) in
    let rest = drop x.length (b ∷ bs) in
    let l : length rest ≡ length (b ∷ bs) - x.length = length-drop x.length (b ∷ bs) in
    let some : 0 < x.length = a.1 in
    later (at + length p.bytes) rest (ts ++ token_of p.kind at (at + length p.bytes)) (omega arith)
    (cut-more s at (b ∷ bs) rest ts p c a.0)
reading-step n s at b bs ts h c later (Err (fault.BadByte x)) a =
    inr (fault.BadByte at, record { rest = b ∷ bs; tokens = ts; before = c; bad = a.1 })
reading-step n s at b bs ts h c later (Err (fault.BadNumber x)) a =
    inr (fault.BadNumber at, record { rest = b ∷ bs; tokens = ts; before = c; bad = a.1 })
reading-step n s at b bs ts h c later (Err (fault.OpenText x)) a =
    inr (fault.OpenText at, record { rest = b ∷ bs; tokens = ts; before = c; bad = a.1 })
reading-step n s at b bs ts h c later (Err fault.OutOfMemory) a = absurd a

reading-from : (n : ℕ) (s : List ℕ) (at : ℕ) (rest : List ℕ) (ts : List Token) → length rest ≤ n → CutTo s at rest ts
    → Reading s
reading-from n s at [] ts h c = inl (ts, cut-end s at ts c)
reading-from zero s at (b ∷ bs) ts h c = absurd (omega arith)
reading-from (suc n) s at (b ∷ bs) ts h c =
    reading-step n s at b bs ts h c (reading-from n s) (scan_from at b bs) (exact at b bs)

pub some-reading : (s : List ℕ) → Reading s
some-reading s = reading-from (length s) s 0 s [] (omega arith) (cut-start s)

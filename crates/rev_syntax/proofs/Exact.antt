-- What the scanner answers is what the text begins with.
use Rattle.std.proofs.Common.{◌≡◌, ℕ, zero, suc, ◌+◌, ◌<◌, ◌≤◌, Bool, true, false, not, ◌&&◌, ◌||◌, List, [], ◌∷◌, ◌++◌, length, take, drop, refl, sym, ap, ◌∙◌, subst, arith, inl, inr, nat_eq, nat_lt, nat_le, eq-eqb, min}
use Rattle.std.specs.Prelude.{Option, Some, None, cond, ◌==◌, ℤ, pos, Ok, Err, codes}
use Rattle.std.specs.List.{list_all, list_any, prefix_len, starts_with, find}
use Rattle.std.specs.Cmp.Lexicographic.{same_text}
use Rattle.std.proofs.lemmas.List.{take-append-drop, length-append, length-take, length-take-le, append_assoc}
use Rattle.std.proofs.lemmas.List.Sums.{prefix_len-le-length}
use Rattle.std.proofs.Math.Seq.{take-append_seam}
use Rattle.std.proofs.lemmas.Bool.Decides.{nat_tests}
use Rattle.std.specs.Str.{all_ascii_digits}
use Rattle.rev_num.specs.Arith.{fits_i64}
use Rattle.rev_num.specs.Decimal.{decimal_in, spelled}
use Rattle.rev_syntax.specs.declared.token.Fixed.{Fixed}
use Rattle.rev_syntax.specs.declared.token.TokenKind.{TokenKind}
use Rattle.rev_syntax.specs.declared.token.TokenKind.TheVariants as k
use Rattle.rev_syntax.specs.declared.token.PieceKind.{PieceKind}
use Rattle.rev_syntax.specs.declared.token.PieceKind.TheVariants as piece
use Rattle.rev_syntax.specs.declared.scan.LexFault.TheVariants as fault
use Rattle.rev_syntax.specs.Bytes.{is_digit, is_letter, is_name_byte, is_blank, is_word, is_text_byte, is_no_line_feed}
use Rattle.rev_syntax.specs.Words.{spelling, words, signs, has_spelling, is_reserved}
use Rattle.rev_syntax.specs.Tokens.{Spells, IsComment, IsQuoted, IsLongest, IsSound, begins_with_letter, is_cut_off}
use Rattle.rev_syntax.specs.Scan.{cut, fixed_or_name, word_kind, word_cut, first_sign, scan, scan_from, scan_other, scan_no_digit, scan_no_letter, scan_no_blank, Answers, piece_at, text_scan, number_scan, number_cut, sign_cut, begins_with_quote}
use Rattle.rev_syntax.proofs.Lists.{both, also, on, find-none, find-passes, find-both, any-both, any-map, same-self, same-number, passed-all, passed-stops, first_passes, within-prefix, exact-prefix}
use Rattle.rev_syntax.proofs.PieceKinds.{lead, blank, letter, digit, quote, other, LedBy, from-lead, led, lead-blank, lead-letter, lead-digit, pass-digits, spells-some, is_sign}

-- A bound on the pieces that begin with the text's first byte is a bound on all with which the text begins.
pub longest-from : (b : ℕ) (bs : List ℕ) (n : ℕ)
    (each : (c more : List ℕ) → LedBy (lead b) b c → bs ≡ c ++ more → suc (length c) ≤ n)
    → (f : PieceKind) (w more : List ℕ) → Spells f w → b ∷ bs ≡ w ++ more → length w ≤ n
longest-from b bs n each f [] more h e = omega arith
longest-from b bs n each f (c ∷ v) more h e =
    let same : c ≡ b = cc in
    let rest : bs ≡ v ++ more = cc in
    each v more (subst (λ (x : ℕ). LedBy (lead x) x v) same (led f c v h)) rest

-- Where none of these begins the text, no piece does.
pub none-from : (b : ℕ) (bs : List ℕ) (each : (c more : List ℕ) → LedBy (lead b) b c → bs ≡ c ++ more → ⊥)
    → (f : PieceKind) (w more : List ℕ) → Spells f w → b ∷ bs ≡ w ++ more → ⊥
none-from b bs each f [] more h e = spells-some f h
none-from b bs each f (c ∷ v) more h e =
    let same : c ≡ b = cc in
    let rest : bs ≡ v ++ more = cc in
    each v more (subst (λ (x : ℕ). LedBy (lead x) x v) same (led f c v h)) rest

-- the first n bytes are a piece, and none that begins the text is longer
pub record Front (s : List ℕ) (f : PieceKind) (n : ℕ) : Type 0 where
  pub some : 0 < n
  pub fits : n ≤ length s
  pub spells : Spells f (take n s)
  pub longest : (g : PieceKind) (w more : List ℕ) → Spells g w → s ≡ w ++ more → length w ≤ n

pub front-longest : (s : List ℕ) (f : PieceKind) (n : ℕ) → Front s f n → IsLongest s (piece_at (cut f n) s)
front-longest s f n h = record {
  spells = h.spells;
  longest = λ q more i e. let l = length-take-le n s h.fits in rw l (h.longest q.kind q.bytes more i e);
}

pub front-next : (at : ℕ) (s : List ℕ) (f : PieceKind) (n : ℕ) → Front s f n → IsSound f (drop n s)
    → Answers at s (Ok (cut f n))
front-next at s f n h sound =
    (record { split = sym (take-append-drop n s); longest = front-longest s f n h; sound = sound }, h.some, h.fits)

-- ---- white space

exact-blank : (at b : ℕ) (bs : List ℕ) → is_blank b ≡ true → Answers at (b ∷ bs) (Ok (cut piece.WhiteSpace 1))
exact-blank at b bs h = front-next at (b ∷ bs) piece.WhiteSpace 1 (record {
  some = omega arith;
  fits = omega arith;
  spells = record { byte = b; alone = refl; blank = h };
  longest = longest-from b bs 1 (λ c more l e. let n = from-lead b c blank (lead-blank b h) l in rw n (omega arith));
}) tt

-- ---- words

pub record IsKind (x : TokenKind) (w rest : List ℕ) : Type 0 where
  pub spells : Spells (piece.Token x) w
  pub sound : IsSound (piece.Token x) rest

word-spells : (w rest : List ℕ) → is_word w ≡ true → IsKind (word_kind w) w rest
word-spells w rest h = found (find (has_spelling w) words) w rest refl h
  where
    found : (o : Option Fixed) (w rest : List ℕ) → find (has_spelling w) words ≡ o → is_word w ≡ true
        → IsKind (fixed_or_name o) w rest
    found (Some x) w rest e h =
        let same = same_text (spelling x) w (sym (find-passes (has_spelling w) words x e)) in
        record { spells = sym same; sound = tt }
    found None w rest e h =
        let free = on (is_reserved w) (find-none (has_spelling w) words e) in
        record { spells = also (is_word w) (not (is_reserved w)) h free; sound = tt }

word-passes : (w : List ℕ) → is_word w ≡ true → list_all is_name_byte w ≡ true
word-passes [] h = refl
word-passes (b ∷ bs) h =
    let w = both (is_letter b) (list_all is_name_byte bs) h in rw w.0 w.1

word-front : (b : ℕ) (bs : List ℕ) → is_letter b ≡ true
    → is_word (take (prefix_len is_name_byte (b ∷ bs)) (b ∷ bs)) ≡ true
word-front b bs h =
    let o : 1 + prefix_len is_name_byte bs ≡ suc (prefix_len is_name_byte bs) = omega arith in
    rw (h, o, h) (passed-all is_name_byte bs)

exact-word : (at b : ℕ) (bs : List ℕ) → is_letter b ≡ true → Answers at (b ∷ bs) (Ok (word_cut (b ∷ bs)))
exact-word at b bs h =
    let n = prefix_len is_name_byte (b ∷ bs) in
    let w = take n (b ∷ bs) in
    let i = word-spells w (drop n (b ∷ bs)) (word-front b bs h) in
    front-next at (b ∷ bs) (piece.Token (word_kind w)) n (record {
      some = rw h (omega arith);
      fits = prefix_len-le-length is_name_byte (b ∷ bs);
      spells = i.spells;
      longest = longest-from b bs n (λ c more l e.
          let p = word-passes (b ∷ c) (from-lead b c letter (lead-letter b h) l) in
          let m = within-prefix is_name_byte (b ∷ c) more p in
          rw e m);
    }) i.sound

-- ---- numbers

no_minus : (b : ℕ) → is_digit b ≡ true → (b == 45) ≡ false
no_minus b h = grind (arith, nat_tests)

ascii-digits : (ds : List ℕ) → list_all is_digit ds ≡ true → all_ascii_digits ds ≡ true
ascii-digits [] h = refl
ascii-digits (d ∷ ds) h =
    let p = both (is_digit d) (list_all is_digit ds) h in
    also (is_digit d) (all_ascii_digits ds) p.0 (ascii-digits ds p.1)

decimal-digits : (d : ℕ) (ds : List ℕ) → list_all is_digit (d ∷ ds) ≡ true
    → decimal_in (d ∷ ds) ≡ cond (fits_i64 (pos (spelled (d ∷ ds)))) (Some (pos (spelled (d ∷ ds)))) None
decimal-digits d ds h =
    let p = both (is_digit d) (list_all is_digit ds) h in
    let m = no_minus d p.0 in
    let a = ascii-digits ds p.1 in
    let some : nat_lt 0 (suc (length ds)) ≡ true = grind (arith, nat_tests) in
    rw (m, some, p.0, a) refl

decimal-some : (w : List ℕ) → list_all is_digit w ≡ true → 0 < length w
    → decimal_in w ≡ cond (fits_i64 (pos (spelled w))) (Some (pos (spelled w))) None
decimal-some [] h some = absurd (omega arith)
decimal-some (d ∷ ds) h some = decimal-digits d ds h

number-answer : (at : ℕ) (s : List ℕ) (n : ℕ) (z : ℤ) (t u : Bool) → Front s (piece.Token (k.Int z)) n → fits_i64 z ≡ t
    → begins_with_letter (drop n s) ≡ u → Answers at s (number_cut n (cond t (Some z) None) u at)
number-answer at s n z true false f t u = front-next at s (piece.Token (k.Int z)) n f (t, u)
number-answer at s n z true true f t u = (
  refl,
  record {
    number = piece_at (cut (piece.Token (k.Int z)) n) s;
    rest = drop n s;
    split = sym (take-append-drop n s);
    longest = front-longest s (piece.Token (k.Int z)) n f;
    unsound = λ sound. let no = sound.1 in cc;
  },
)
number-answer at s n z false u f t _ = (
  refl,
  record {
    number = piece_at (cut (piece.Token (k.Int z)) n) s;
    rest = drop n s;
    split = sym (take-append-drop n s);
    longest = front-longest s (piece.Token (k.Int z)) n f;
    unsound = λ sound. let no = sound.0 in cc;
  },
)

exact-number : (at b : ℕ) (bs : List ℕ) → is_digit b ≡ true → Answers at (b ∷ bs) (number_scan at (b ∷ bs))
exact-number at b bs h =
    let s = b ∷ bs in
    let n = prefix_len is_digit s in
    let w = take n s in
    let z = pos (spelled w) in
    let d = passed-all is_digit s in
    let some : 0 < n = rw h (omega arith) in
    let fits : n ≤ length s = prefix_len-le-length is_digit s in
    let len : length w ≡ n = length-take-le n s fits in
    let long : 0 < length w = omega arith in
    let e = decimal-some w d long in
    let front : Front s (piece.Token (k.Int z)) n = record {
      some = some;
      fits = fits;
      spells = record { digits = record { some = long; each = pass-digits w d }; value = refl };
      longest = longest-from b bs n
          (λ c more l e.
          let p = from-lead b c digit (lead-digit b h) l in rw e (within-prefix is_digit (b ∷ c) more p));
    } in
    let u = begins_with_letter (drop n s) in
    subst (λ (o : Option ℤ). Answers at s (number_cut n o u at)) (sym e)
    (number-answer at s n z (fits_i64 z) u front refl refl)

-- ---- texts in quotes

take-quote : (n : ℕ) (bs : List ℕ) → begins_with_quote (drop n bs) ≡ true → take (suc n) bs ≡ take n bs ++ 34 ∷ []
take-quote zero [] h = absurd (cc)
take-quote zero (b ∷ bs) h = let e : b ≡ 34 = grind (arith, nat_tests) in rw e refl
take-quote (suc n) [] h = absurd (cc)
take-quote (suc n) (b ∷ bs) h = ap (λ (v : List ℕ). b ∷ v) (take-quote n bs h)

fits-quote : (n : ℕ) (bs : List ℕ) → begins_with_quote (drop n bs) ≡ true → n < length bs
fits-quote zero [] h = absurd (cc)
fits-quote zero (b ∷ bs) h = omega arith
fits-quote (suc n) [] h = absurd (cc)
fits-quote (suc n) (b ∷ bs) h = let r = fits-quote n bs h in omega arith

-- the bytes of a text in quotes go exactly up to its closing quote
quoted-length : (bs c more : List ℕ) → IsQuoted (34 ∷ c) → bs ≡ c ++ more → length c ≡ prefix_len is_text_byte bs + 1
quoted-length bs c more h e =
    let body : c ≡ h.body ++ 34 ∷ [] = cc in
    let whole : bs ≡ h.body ++ (34 ∷ more) =
    e ∙ ap (λ (v : List ℕ). v ++ more) body ∙ append_assoc h.body (34 ∷ []) more in
    let p : prefix_len is_text_byte (h.body ++ (34 ∷ more)) ≡ length h.body =
    exact-prefix is_text_byte h.body (34 ∷ more) h.inside refl in
    let n : prefix_len is_text_byte bs ≡ length h.body = ap (prefix_len is_text_byte) whole ∙ p in
    let l : length c ≡ length h.body + 1 = ap (λ (v : List ℕ). length v) body ∙ length-append h.body (34 ∷ []) in
    omega arith

closed-front : (bs : List ℕ) → begins_with_quote (drop (prefix_len is_text_byte bs) bs) ≡ true
    → Front (34 ∷ bs) (piece.Token k.Text) (prefix_len is_text_byte bs + 2)
closed-front bs h =
    let n = prefix_len is_text_byte bs in
    let fits = fits-quote n bs h in
    let two : n + 2 ≡ suc (suc n) = omega arith in
    record {
      some = omega arith;
      fits = omega arith;
      spells = record {
        body = take n bs;
        quotes = rw two (ap (λ (v : List ℕ). 34 ∷ v) (take-quote n bs h));
        inside = passed-all is_text_byte bs;
      };
      longest = longest-from 34 bs (n + 2) (λ c more l e.
          let q = from-lead 34 c quote refl l in let len = quoted-length bs c more q e in omega arith);
    }

cut-off : (rest : List ℕ) → first_passes is_text_byte rest ≡ false → begins_with_quote rest ≡ false
    → is_cut_off rest ≡ true
cut-off [] h q = refl
cut-off (b ∷ bs) h q = also (not (is_text_byte b)) (not (b == 34)) (on (is_text_byte b) h) (on (b == 34) q)

exact-text : (at : ℕ) (bs : List ℕ) → Answers at (34 ∷ bs) (text_scan at bs)
exact-text at bs =
    let n = prefix_len is_text_byte bs in
    elim (begins_with_quote (drop n bs)) as (λ t.
    begins_with_quote (drop n bs) ≡ t
    → Answers at (34 ∷ bs) (cond t (Ok (cut (piece.Token k.Text) (n + 2))) (Err (fault.OpenText at)))) [
      | true ↦ λ h. front-next at (34 ∷ bs) (piece.Token k.Text) (n + 2) (closed-front bs h) tt
      | false ↦ λ h. (
        refl,
        record {
          body = take n bs;
          rest = drop n bs;
          split = ap (λ (v : List ℕ). 34 ∷ v) (sym (take-append-drop n bs));
          inside = passed-all is_text_byte bs;
          cut_off = cut-off (drop n bs) (passed-stops is_text_byte bs) h;
        },
      )
    ] refl

-- ---- comments

-- The text begins with two slashes.
two-slashes : (b : ℕ) (bs : List ℕ) → starts_with nat_eq (b ∷ bs) (codes "//") ≡ true
    → (rest : List ℕ) × (b ≡ 47) × (bs ≡ 47 ∷ rest)
two-slashes b [] h = let e = same_text (codes "//") (b ∷ []) (sym h) in absurd (cc)
two-slashes b (c ∷ cs) h =
    let e = same_text (codes "//") (b ∷ c ∷ []) (sym h) in
    let f : b ≡ 47 = cc in
    let g : c ≡ 47 = cc in
    (cs, f, ap (λ (x : ℕ). x ∷ cs) g)

sign-short : (w : List ℕ) → is_sign w ≡ true → length w ≤ 2
sign-short w h =
    let a = any-both (λ x. nat_le (length (spelling x)) 2) (has_spelling w) signs refl h in
    let e : length (spelling a.0) ≡ length w = ap (λ (v : List ℕ). length v) (same_text (spelling a.0) w (sym a.1)) in
    let t : nat_le (length (spelling a.0)) 2 ≡ true = a.2 in
    let l : nat_le (length w) 2 ≡ true = rw (← e) t in
    grind (arith, nat_tests)

comment-longest : (bs c more : List ℕ) → LedBy other 47 c → 47 ∷ bs ≡ c ++ more
    → suc (length c) ≤ prefix_len is_no_line_feed (47 ∷ 47 ∷ bs)
comment-longest bs c more (inl h) e =
    let p : list_all is_no_line_feed (47 ∷ c) ≡ true =
    subst (λ (v : List ℕ). list_all is_no_line_feed v ≡ true) (sym h.opens) h.inside in
    subst (λ (v : List ℕ). suc (length c) ≤ prefix_len is_no_line_feed (47 ∷ v)) (sym e)
    (within-prefix is_no_line_feed (47 ∷ c) more p)
comment-longest bs c more (inr i) e = let l : suc (length c) ≤ 2 = sign-short (47 ∷ c) i in omega arith

comment-front : (bs : List ℕ) → Front (47 ∷ 47 ∷ bs) piece.Comment (prefix_len is_no_line_feed (47 ∷ 47 ∷ bs))
comment-front bs =
    let m = prefix_len is_no_line_feed bs in
    let o : 1 + (1 + m) ≡ suc (suc m) = omega arith in
    record {
      some = omega arith;
      fits = prefix_len-le-length is_no_line_feed (47 ∷ 47 ∷ bs);
      spells = record { body = take m bs; opens = rw o refl; inside = passed-all is_no_line_feed bs };
      longest = longest-from 47 (47 ∷ bs) (1 + (1 + m))
          (λ c more l e. comment-longest bs c more (from-lead 47 c other refl l) e);
    }

exact-comment : (at b : ℕ) (bs : List ℕ) → starts_with nat_eq (b ∷ bs) (codes "//") ≡ true
    → Answers at (b ∷ bs) (Ok (cut piece.Comment (prefix_len is_no_line_feed (b ∷ bs))))
exact-comment at b bs h =
    let t = two-slashes b bs h in
    let from =
    front-next at (47 ∷ 47 ∷ t.0) piece.Comment (prefix_len is_no_line_feed (47 ∷ 47 ∷ t.0)) (comment-front t.0) tt in
    subst (λ (x : ℕ). Answers at (x ∷ bs) (Ok (cut piece.Comment (prefix_len is_no_line_feed (x ∷ bs))))) (sym t.1)
    (subst (λ (v : List ℕ). Answers at (47 ∷ v) (Ok (cut piece.Comment (prefix_len is_no_line_feed (47 ∷ v)))))
    (sym t.2) from)

-- ---- signs

-- The signs come with the longer ones first.
abbrev pub descends : List Fixed → Bool
descends [] = true
descends (x ∷ xs) = list_all (λ y. nat_le (length (spelling y)) (length (spelling x))) xs && descends xs

-- the first of these that passes is at least as long as each other one
longest-found : (p : Fixed → Bool) (m : ℕ) (xs : List Fixed) (x : Fixed) → descends xs ≡ true → find p xs ≡ Some x
    → list_any (λ y. p y && (length (spelling y) == m)) xs ≡ true → m ≤ length (spelling x)
longest-found p m [] x d f h = absurd (cc)
longest-found p m (z ∷ zs) x d f h =
    let e = both (list_all (λ y. nat_le (length (spelling y)) (length (spelling z))) zs) (descends zs) d in
    elim (p z) as (λ b.
    cond b (Some z) (find p zs) ≡ Some x
    → ((b && (length (spelling z) == m)) || list_any (λ y. p y && (length (spelling y) == m)) zs) ≡ true
    → m ≤ length (spelling x)) [
      | true ↦ λ g i.
          let same : z ≡ x = cc in subst (λ (v : Fixed). m ≤ length (spelling v)) same (longest-first p m z zs e.0 i)
      | false ↦ λ g i. longest-found p m zs x e.1 g i
    ] f h
  where
    longest-first : (p : Fixed → Bool) (m : ℕ) (z : Fixed) (zs : List Fixed)
        → list_all (λ y. nat_le (length (spelling y)) (length (spelling z))) zs ≡ true
        → ((length (spelling z) == m) || list_any (λ y. p y && (length (spelling y) == m)) zs) ≡ true
        → m ≤ length (spelling z)
    longest-first p m z zs a h =
        elim (length (spelling z) == m) as (λ b.
        (length (spelling z) == m) ≡ b → (b || list_any (λ y. p y && (length (spelling y) == m)) zs) ≡ true
        → m ≤ length (spelling z)) [
          | true ↦ λ e _. let same : length (spelling z) ≡ m = same-number (length (spelling z)) m e in omega arith
          | false ↦ λ _ i.
              let y = any-both (λ y. nat_le (length (spelling y)) (length (spelling z)))
              (λ y. p y && (length (spelling y) == m)) zs a i in
              let same : length (spelling y.0) ≡ m =
              same-number (length (spelling y.0)) m (both (p y.0) (length (spelling y.0) == m) y.1).1 in
              let le : nat_le (length (spelling y.0)) (length (spelling z)) ≡ true = y.2 in
              grind (arith, nat_tests)
        ] refl h

sign-begins : (s w more : List ℕ) → is_sign w ≡ true → s ≡ w ++ more
    → list_any (λ y. starts_with nat_eq s (spelling y) && (length (spelling y) == length w)) signs ≡ true
sign-begins s w more h e =
    any-map (has_spelling w) (λ y. starts_with nat_eq s (spelling y) && (length (spelling y) == length w)) signs
    (spelled-begins s w more e) h
  where
    spelled-begins : (s w more : List ℕ) → s ≡ w ++ more → (y : Fixed) → has_spelling w y ≡ true
        → (starts_with nat_eq s (spelling y) && (length (spelling y) == length w)) ≡ true
    spelled-begins s w more e y h =
        let same = same_text (spelling y) w (sym h) in
        let front : starts_with nat_eq (w ++ more) w ≡ true = rw take-append_seam (same-self w) in
        let begins : starts_with nat_eq s (spelling y) ≡ true = rw (same, e) front in
        also (starts_with nat_eq s (spelling y)) (length (spelling y) == length w) begins
        (eq-eqb (length (spelling y)) (length w) (ap (λ (v : List ℕ). length v) same))

-- The text begins with no comment.
no_comment : (b : ℕ) (bs c more : List ℕ) → starts_with nat_eq (b ∷ bs) (codes "//") ≡ false → IsComment (b ∷ c)
    → bs ≡ c ++ more → ⊥
no_comment b bs c more n h e =
    let f : b ≡ 47 = cc in
    let g : c ≡ 47 ∷ h.body = cc in
    let i : bs ≡ 47 ∷ (h.body ++ more) = e ∙ ap (λ (v : List ℕ). v ++ more) g in
    let j : starts_with nat_eq (b ∷ bs) (codes "//") ≡ true = rw (f, i) refl in
    cc

abbrev sign_passes : List ℕ → Fixed → Bool
sign_passes s x = starts_with nat_eq s (spelling x)

sign-longest : (b : ℕ) (bs : List ℕ) (x : Fixed) → starts_with nat_eq (b ∷ bs) (codes "//") ≡ false
    → find (sign_passes (b ∷ bs)) signs ≡ Some x → (c more : List ℕ) → LedBy other b c → bs ≡ c ++ more
    → suc (length c) ≤ length (spelling x)
sign-longest b bs x n f c more (inl h) e = absurd (no_comment b bs c more n h e)
sign-longest b bs x n f c more (inr i) e =
    longest-found (sign_passes (b ∷ bs)) (suc (length c)) signs x refl f
    (sign-begins (b ∷ bs) (b ∷ c) more i (ap (λ (v : List ℕ). b ∷ v) e))

found-sign : (at b : ℕ) (bs : List ℕ) (x : Fixed) → lead b ≡ other → starts_with nat_eq (b ∷ bs) (codes "//") ≡ false
    → find (sign_passes (b ∷ bs)) signs ≡ Some x → Answers at (b ∷ bs) (sign_cut at (Some x))
found-sign at b bs x l n f =
    let s = b ∷ bs in
    let m = length (spelling x) in
    let same : spelling x ≡ take m s =
    same_text (spelling x) (take m s) (sym (find-passes (sign_passes s) signs x f)) in
    let some : nat_lt 0 m ≡ true = find-both (λ y. nat_lt 0 (length (spelling y))) (sign_passes s) signs x refl f in
    let len : m ≡ min m (length s) = ap (λ (v : List ℕ). length v) same ∙ length-take m s in
    front-next at s (piece.Token (k.Fixed x)) m (record {
      some = grind (arith, nat_tests);
      fits = omega arith;
      spells = sym same;
      longest = longest-from b bs m (λ c more i e. sign-longest b bs x n f c more (from-lead b c other l i) e);
    }) tt

no-sign : (b : ℕ) (bs : List ℕ) → starts_with nat_eq (b ∷ bs) (codes "//") ≡ false
    → find (sign_passes (b ∷ bs)) signs ≡ None → (c more : List ℕ) → LedBy other b c → bs ≡ c ++ more → ⊥
no-sign b bs n f c more (inl h) e = no_comment b bs c more n h e
no-sign b bs n f c more (inr i) e =
    let s = b ∷ bs in
    let k = sign-begins s (b ∷ c) more i (ap (λ (v : List ℕ). b ∷ v) e) in
    let a = any-map (λ y. sign_passes s y && (length (spelling y) == suc (length c))) (sign_passes s) signs
    (λ y h. (both (sign_passes s y) (length (spelling y) == suc (length c)) h).0) k in
    let z = find-none (sign_passes s) signs f in
    cc

other-no_quote : (b : ℕ) → lead b ≡ other → b ≡ 34 → ⊥
other-no_quote b l e = let q : lead b ≡ quote = rw e refl in cc

exact-sign : (at b : ℕ) (bs : List ℕ) → lead b ≡ other → starts_with nat_eq (b ∷ bs) (codes "//") ≡ false
    → Answers at (b ∷ bs) (sign_cut at (first_sign (b ∷ bs)))
exact-sign at b bs l n = found (find (sign_passes (b ∷ bs)) signs) refl
  where
    found : (o : Option Fixed) → find (sign_passes (b ∷ bs)) signs ≡ o → Answers at (b ∷ bs) (sign_cut at o)
    found (Some x) f = found-sign at b bs x l n f
    found None f = (
      refl,
      record {
        byte = b;
        more = bs;
        split = refl;
        none = λ q more h e.
            none-from b bs (λ c v i j. no-sign b bs n f c v (from-lead b c other l i) j) q.kind q.bytes more h e;
        plain = other-no_quote b l;
      },
    )

-- ---- all of them

exact-other : (at b : ℕ) (bs : List ℕ) → lead b ≡ other → Answers at (b ∷ bs) (scan_other at b bs)
exact-other at b bs l =
    elim (starts_with nat_eq (b ∷ bs) (codes "//")) as (λ t.
    starts_with nat_eq (b ∷ bs) (codes "//") ≡ t
    → Answers at (b ∷ bs)
    (cond t (Ok (cut piece.Comment (prefix_len is_no_line_feed (b ∷ bs)))) (sign_cut at (first_sign (b ∷ bs))))) [
      | true ↦ λ h. exact-comment at b bs h
      | false ↦ λ h. exact-sign at b bs l h
    ] refl

exact-no_digit : (at b : ℕ) (bs : List ℕ) → is_blank b ≡ false → is_letter b ≡ false → is_digit b ≡ false
    → Answers at (b ∷ bs) (scan_no_digit at b bs)
exact-no_digit at b bs x y z =
    elim (b == 34) as (λ t. (b == 34) ≡ t → Answers at (b ∷ bs) (cond t (text_scan at bs) (scan_other at b bs))) [
      | true ↦ λ h.
          let e : b ≡ 34 = same-number b 34 h in
          subst (λ (v : ℕ). Answers at (v ∷ bs) (text_scan at bs)) (sym e) (exact-text at bs)
      | false ↦ λ h. let l : lead b ≡ other = rw (x, y, z, h) refl in exact-other at b bs l
    ] refl

exact-no_letter : (at b : ℕ) (bs : List ℕ) → is_blank b ≡ false → is_letter b ≡ false
    → Answers at (b ∷ bs) (scan_no_letter at b bs)
exact-no_letter at b bs x y =
    elim (is_digit b) as (λ t.
    is_digit b ≡ t → Answers at (b ∷ bs) (cond t (number_scan at (b ∷ bs)) (scan_no_digit at b bs))) [
      | true ↦ λ h. exact-number at b bs h
      | false ↦ λ h. exact-no_digit at b bs x y h
    ] refl

exact-no_blank : (at b : ℕ) (bs : List ℕ) → is_blank b ≡ false → Answers at (b ∷ bs) (scan_no_blank at b bs)
exact-no_blank at b bs x =
    elim (is_letter b) as (λ t.
    is_letter b ≡ t → Answers at (b ∷ bs) (cond t (Ok (word_cut (b ∷ bs))) (scan_no_letter at b bs))) [
      | true ↦ λ h. exact-word at b bs h
      | false ↦ λ h. exact-no_letter at b bs x h
    ] refl

pub exact : (at b : ℕ) (bs : List ℕ) → Answers at (b ∷ bs) (scan_from at b bs)
exact at b bs =
    elim (is_blank b) as (λ t.
    is_blank b ≡ t → Answers at (b ∷ bs) (cond t (Ok (cut piece.WhiteSpace 1)) (scan_no_blank at b bs))) [
      | true ↦ λ h. exact-blank at b bs h
      | false ↦ λ h. exact-no_blank at b bs h
    ] refl

pub exact-scan : (at : ℕ) (s : List ℕ) → 0 < length s → Answers at s (scan at s)
exact-scan at [] h = absurd (omega arith)
exact-scan at (b ∷ bs) h = exact at b bs

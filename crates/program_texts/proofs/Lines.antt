-- No program has a line with which a trace begins: where it stands, two names stand side by side.
use Rattle.std.proofs.Common.{◌≡◌, ◌⊎◌, ℕ, ◌+◌, Bool, true, false, not, ◌&&◌, List, [], ◌∷◌, ◌++◌, refl, sym, ap, ◌∙◌, subst, inl, inr}
use Rattle.std.specs.Prelude.{◌==◌, codes}
use Rattle.std.specs.List.{list_all}
use Rattle.std.proofs.lemmas.List.{append_assoc, append-nil}
use Rattle.std.proofs.lemmas.Bool.{and_parts}
use Rattle.rev_syntax.specs.declared.token.Token.{Token}
use Rattle.rev_syntax.specs.declared.token.TokenKind.TheVariants as k
use Rattle.rev_syntax.specs.declared.token.PieceKind.{PieceKind}
use Rattle.rev_syntax.specs.declared.token.PieceKind.TheVariants as piece
use Rattle.rev_syntax.specs.declared.token.Fixed.{Fixed}
use Rattle.rev_syntax.specs.declared.token.Fixed.TheVariants as s
use Rattle.rev_syntax.specs.Bytes.{is_digit, is_letter, is_name_byte, is_word, is_text_byte, is_no_line_feed}
use Rattle.rev_syntax.specs.Words.{spelling, is_reserved}
use Rattle.rev_syntax.specs.Tokens.{Spells, Piece, Leads, array_size, tokens_of}
use Rattle.rev_syntax.proofs.Lists.{same-number}
use Rattle.rev_syntax.proofs.PieceKinds.{digits-pass}
use Rattle.trace_diagram.specs.Traces.{IsWholeLines, first_line}
use Rattle.trace_diagram.specs.Dividing.{BeginsTrace}
use Rattle.program_texts.specs.Laws.{NoProgramBeginsATrace}
use Rattle.program_texts.proofs.Cuts.{cut_leads, tokens_append, begins_with}
use Rattle.program_texts.proofs.Sides.{are_apart, program_is_apart, no_two}

-- ---- pieces and line feeds

-- no byte of these is a line feed
abbrev is_on_a_line : List ℕ → Bool
is_on_a_line w = list_all is_no_line_feed w

all_weaker : (p q : ℕ → Bool) → ((b : ℕ) → p b ≡ true → q b ≡ true) → (w : List ℕ) → list_all p w ≡ true
    → list_all q w ≡ true
all_weaker p q each [] h = refl
all_weaker p q each (b ∷ w) h =
    let parts = and_parts (p b) (list_all p w) h in
    ap (λ x. x && list_all q w) (each b parts.0) ∙ all_weaker p q each w parts.1

all_append : (p : ℕ → Bool) (u v : List ℕ) → list_all p u ≡ true → list_all p v ≡ true → list_all p (u ++ v) ≡ true
all_append p [] v h i = i
all_append p (b ∷ u) v h i =
    let parts = and_parts (p b) (list_all p u) h in
    ap (λ x. x && list_all p (u ++ v)) parts.0 ∙ all_append p u v parts.1 i

unless_feed : (p : ℕ → Bool) → p 10 ≡ false → (b : ℕ) → p b ≡ true → is_no_line_feed b ≡ true
unless_feed p none b h = by_test (b == 10) refl
  where
    by_test : (t : Bool) → (b == 10) ≡ t → not t ≡ true
    by_test true e =
        let ten : b ≡ 10 = same-number b 10 e in
        let both : p 10 ≡ true = subst (λ n. p n ≡ true) ten h in
        let clash : true ≡ false = sym both ∙ none in
        absurd cc
    by_test false e = refl

spelled_on_a_line : (f : Fixed) → is_on_a_line (spelling f) ≡ true
spelled_on_a_line s.Fun = refl
spelled_on_a_line _ = refl

word_on_a_line : (w : List ℕ) → is_word w ≡ true → is_on_a_line w ≡ true
word_on_a_line [] h = refl
word_on_a_line (b ∷ bs) h =
    let parts = and_parts (is_letter b) (list_all is_name_byte bs) h in
    ap (λ x. x && is_on_a_line bs) (unless_feed is_letter refl b parts.0)
    ∙ all_weaker is_name_byte is_no_line_feed (unless_feed is_name_byte refl) bs parts.1

-- a piece is one byte, or has no line feed
on_a_line : (f : PieceKind) (w : List ℕ) → Spells f w → ((b : ℕ) × (w ≡ b ∷ [])) ⊎ (is_on_a_line w ≡ true)
on_a_line piece.WhiteSpace w h = inl (h.byte, h.alone)
on_a_line piece.Comment w h = inr (ap is_on_a_line h.opens ∙ h.inside)
on_a_line (piece.Token k.Name) w h = inr (word_on_a_line w (and_parts (is_word w) (not (is_reserved w)) h).0)
on_a_line (piece.Token (k.Int n)) w h =
    inr (all_weaker is_digit is_no_line_feed (unless_feed is_digit refl) w (digits-pass w h.digits.each))
on_a_line (piece.Token k.Text) w h =
    inr (ap is_on_a_line h.quotes
    ∙ all_append is_no_line_feed h.body (34 ∷ [])
    (all_weaker is_text_byte is_no_line_feed (unless_feed is_text_byte refl) h.body h.inside) refl)
on_a_line (piece.Token (k.Fixed f)) w h = inr (ap is_on_a_line h ∙ spelled_on_a_line f)

feed_within : (u v : List ℕ) → is_on_a_line (u ++ 10 ∷ v) ≡ true → ⊥
feed_within [] v h = cc
feed_within (b ∷ u) v h = feed_within u v (and_parts (is_no_line_feed b) (is_on_a_line (u ++ 10 ∷ v)) h).1

alone : (u v : List ℕ) (b : ℕ) → u ++ 10 ∷ v ≡ b ∷ [] → (u ≡ []) × (v ≡ [])
alone [] v b e = (refl, cc)
alone (x ∷ []) v b e = absurd cc
alone (x ∷ y ∷ u) v b e = absurd cc

-- what a piece has behind a line feed, and before it
feed_alone : (f : PieceKind) (w : List ℕ) → Spells f w → (u v : List ℕ) → w ≡ u ++ 10 ∷ v → (u ≡ []) × (v ≡ [])
feed_alone f w h u v e = by_form (on_a_line f w h)
  where
    by_form : ((b : ℕ) × (w ≡ b ∷ [])) ⊎ (is_on_a_line w ≡ true) → (u ≡ []) × (v ≡ [])
    by_form (inl one) = alone u v one.0 (sym e ∙ one.1)
    by_form (inr line) = absurd (feed_within u v (sym (ap is_on_a_line e) ∙ line))

-- ---- a piece begins behind each line feed

record Begins (ps : List Piece) (back : List ℕ) : Type 0 where
  first : List Piece
  more : List Piece
  is : ps ≡ first ++ more
  leads : Leads more back []

-- a piece and the rest, and what stands before a line feed and behind it: the piece ends before the line feed, or has
-- it
record Before (w rest front back : List ℕ) : Type 0 where
  middle : List ℕ
  front_is : front ≡ w ++ middle
  rest_is : rest ≡ middle ++ 10 ∷ back

record Within (w rest front back : List ℕ) : Type 0 where
  middle : List ℕ
  piece_is : w ≡ front ++ 10 ∷ middle
  back_is : back ≡ middle ++ rest

compare : (w rest front back : List ℕ) → w ++ rest ≡ front ++ 10 ∷ back
    → Before w rest front back ⊎ Within w rest front back
compare [] rest front back e = inl (record { middle = front; front_is = refl; rest_is = e })
compare (b ∷ w) rest [] back e =
    let ten : b ≡ 10 = cc in
    let tail : w ++ rest ≡ back = cc in
    inr (record { middle = w; piece_is = ap (λ x. x ∷ w) ten; back_is = sym tail })
compare (b ∷ w) rest (c ∷ front) back e =
    let same : b ≡ c = cc in
    let tail : w ++ rest ≡ front ++ 10 ∷ back = cc in
    by_tail same (compare w rest front back tail)
  where
    by_tail : b ≡ c → Before w rest front back ⊎ Within w rest front back
        → Before (b ∷ w) rest (c ∷ front) back ⊎ Within (b ∷ w) rest (c ∷ front) back
    by_tail same (inl h) = inl (record {
      middle = h.middle;
      front_is = ap (λ x. x ∷ front) (sym same) ∙ ap (λ l. b ∷ l) h.front_is;
      rest_is = h.rest_is;
    })
    by_tail same (inr h) = inr (record {
      middle = h.middle;
      piece_is = ap (λ x. x ∷ w) same ∙ ap (λ l. c ∷ l) h.piece_is;
      back_is = h.back_is;
    })

none_left : (front back : List ℕ) → [] ≡ front ++ 10 ∷ back → ⊥
none_left [] back e = cc
none_left (b ∷ front) back e = cc

behind_feed : (ps : List Piece) (s front back : List ℕ) → Leads ps s [] → s ≡ front ++ 10 ∷ back → Begins ps back
behind_feed [] s front back l e = absurd (none_left front back (sym l ∙ e))
behind_feed (p ∷ ps) s front back l e =
    by_place (λ middle is. behind_feed ps l.0 middle back l.2 is) (compare p.bytes l.0 front back (sym l.1.split ∙ e))
  where
    by_place : ((middle : List ℕ) → l.0 ≡ middle ++ 10 ∷ back → Begins ps back)
        → Before p.bytes l.0 front back ⊎ Within p.bytes l.0 front back → Begins (p ∷ ps) back
    by_place later (inl h) =
        let b = later h.middle h.rest_is in
        record { first = p ∷ b.first; more = b.more; is = ap (λ x. p ∷ x) b.is; leads = b.leads }
    by_place later (inr h) =
        let one = feed_alone p.kind p.bytes l.1.longest.spells front h.middle h.piece_is in
        let here : back ≡ l.0 = h.back_is ∙ ap (λ m. m ++ l.0) one.1 in
        record { first = p ∷ []; more = ps; is = refl; leads = subst (λ v. Leads ps v []) (sym here) l.2 }

behind_lines : (ps : List Piece) (s front back : List ℕ) → Leads ps s [] → s ≡ front ++ back → IsWholeLines front
    → Begins ps back
behind_lines ps s front back l e (inl none) =
    record { first = []; more = ps; is = refl; leads = subst (λ v. Leads ps v []) (e ∙ ap (λ f. f ++ back) none) l }
behind_lines ps s front back l e (inr h) =
    behind_feed ps s h.0 back l (e ∙ ap (λ f. f ++ back) h.1 ∙ append_assoc h.0 (10 ∷ []) back)

-- ---- the line with which a trace begins

abbrev word : List ℕ → Piece
word w = record { kind = piece.Token k.Name; bytes = w }

abbrev blank : Piece
blank = record { kind = piece.WhiteSpace; bytes = 32 ∷ [] }

abbrev two_words : List Piece
two_words = word (codes "revisions") ∷ blank ∷ word (codes "trace") ∷ []

first_words : (more : List ℕ) → Leads two_words (first_line ++ more) (codes " 1" ++ more)
first_words more = cut_leads 3 (first_line ++ more) two_words (codes " 1" ++ more) refl

has_words : (back : List ℕ) → BeginsTrace back → (rest : List ℕ) × Leads two_words back rest
has_words back (inl is) =
    let e : back ≡ first_line ++ [] = is ∙ sym (append-nil first_line) in
    (codes " 1" ++ [], subst (λ v. Leads two_words v (codes " 1" ++ [])) (sym e) (first_words []))
has_words back (inr h) =
    let e : back ≡ first_line ++ 10 ∷ h.0 = h.1 ∙ append_assoc first_line (10 ∷ []) h.0 in
    (codes " 1" ++ 10 ∷ h.0, subst (λ v. Leads two_words v (codes " 1" ++ 10 ∷ h.0)) (sym e) (first_words (10 ∷ h.0)))

-- tokens with two names side by side are not apart
two_named : (at : ℕ) (us : List Token) (ps : List Piece) → are_apart false (us ++ tokens_of at (two_words ++ ps)) ≡ true
    → ⊥
two_named at us ps h = no_two false us _ _ _ refl refl h

pub no_trace_line : NoProgramBeginsATrace
no_trace_line text ts p cut parsed front back at =
    let b = behind_lines cut.pieces text front back cut.leads at.is at.whole in
    let w = has_words back at.begins in
    let g = begins_with two_words b.more back w.0 b.leads w.1 in
    let pieces : cut.pieces ≡ b.first ++ (two_words ++ g.more) = b.is ∙ ap (λ l. b.first ++ l) g.is in
    let tokens : ts ≡ tokens_of 0 b.first ++ tokens_of (0 + array_size b.first) (two_words ++ g.more) =
    cut.tokens ∙ ap (tokens_of 0) pieces ∙ tokens_append 0 b.first (two_words ++ g.more) in
    two_named (0 + array_size b.first) (tokens_of 0 b.first) g.more
    (subst (λ l. are_apart false l ≡ true) tokens (program_is_apart text ts p parsed))

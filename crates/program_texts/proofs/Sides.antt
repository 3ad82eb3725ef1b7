-- No program has two names side by side.
--   begins_named, ends_named   whether a rule derives tokens of which the first, or the last, is a name
--   keeps_apart                whether a rule derives no two names side by side
use Rattle.std.proofs.Common.{◌≡◌, ℕ, zero, suc, Bool, true, false, not, ◌&&◌, ◌||◌, List, [], ◌∷◌, ◌++◌, length, refl, sym, ap, ◌∙◌, subst, inl, inr}
use Rattle.std.proofs.lemmas.Bool.{and_parts, or_left, or_right}
use Rattle.rev_syntax.specs.declared.token.Token.{Token}
use Rattle.rev_syntax.specs.Trees.{ProgramTree}
use Rattle.rev_expressions.specs.Form.{nothing, token, level, both, either, many, Opened, Many, Lang, Derives, Nested, AnyNested}
use Rattle.rev_expressions.specs.Reader.{nullable}
use Rattle.rev_expressions.specs.Outcome.{left}
use Rattle.rev_expressions.proofs.Words.{null_sound}
use Rattle.rev_expressions.specs.Classes.{Class, class_of, is_same}
use Rattle.rev_expressions.specs.Classes as class
use Rattle.rev_expressions.specs.Grammar.{alphabet, Rule, Inner, Value, Operand, Parens, Index, Arguments, Parts, Body, Params, Names, Cells}
use Rattle.rev_expressions.specs.Declarations.{program, inner}
use Rattle.rev_parse.specs.Verdicts.{IsProgram}
use Rattle.rev_expressions.proofs.WholeGrammar.{whole_grammar}

-- ---- tokens

abbrev is_name : Class → Bool
is_name class.name = true
is_name _ = false

abbrev pub is_named : Token → Bool
is_named t = is_name (class_of t.kind)

same_named : (a b : Class) → is_same a b ≡ true → is_name b ≡ true → is_name a ≡ true
same_named class.name b e n = refl
same_named class.number class.name e n = absurd cc
same_named class.number class.number e n = n
same_named class.number class.text e n = absurd cc
same_named class.number (class.fixed f) e n = absurd cc
same_named class.text class.name e n = absurd cc
same_named class.text class.number e n = absurd cc
same_named class.text class.text e n = n
same_named class.text (class.fixed f) e n = absurd cc
same_named (class.fixed g) class.name e n = absurd cc
same_named (class.fixed g) class.number e n = absurd cc
same_named (class.fixed g) class.text e n = absurd cc
same_named (class.fixed g) (class.fixed f) e n = n

-- no name stands behind a name, where this says whether one stands before them
abbrev pub are_apart : Bool → List Token → Bool
are_apart before [] = true
are_apart before (t ∷ ts) = not (before && is_named t) && are_apart (is_named t) ts

-- whether the last of these is a name, where this says it of what stands before them
abbrev pub ends_so : Bool → List Token → Bool
ends_so before [] = before
ends_so before (t ∷ ts) = ends_so (is_named t) ts

abbrev starts_so : List Token → Bool
starts_so [] = false
starts_so (t ∷ ts) = is_named t

and_assoc : (a b c : Bool) → a && (b && c) ≡ (a && b) && c
and_assoc true b c = refl
and_assoc false b c = refl

pub apart_append : (before : Bool) (us vs : List Token)
    → are_apart before (us ++ vs) ≡ are_apart before us && are_apart (ends_so before us) vs
apart_append before [] vs = refl
apart_append before (t ∷ us) vs =
    ap (λ b. not (before && is_named t) && b) (apart_append (is_named t) us vs)
    ∙ and_assoc (not (before && is_named t)) (are_apart (is_named t) us) (are_apart (ends_so (is_named t) us) vs)

ends_append : (before : Bool) (us vs : List Token) → ends_so before (us ++ vs) ≡ ends_so (ends_so before us) vs
ends_append before [] vs = refl
ends_append before (t ∷ us) vs = ends_append (is_named t) us vs

behind_name : (vs : List Token) → starts_so vs ≡ false → are_apart false vs ≡ true → are_apart true vs ≡ true
behind_name [] s h = refl
behind_name (t ∷ vs) s h = ap (λ b. not b && are_apart (is_named t) vs) s ∙ h

-- ---- rules

-- which of the inner rules may end with a name
abbrev may_end : Inner → Bool
may_end Operand = true
may_end _ = false

abbrev begins_named : {A : Type 0} → Rule A → Bool
begins_named (nothing a) = false
begins_named (token s val) = is_name s
begins_named (level s i val) = is_name s
begins_named (both f P Q) = begins_named P || (nullable alphabet P && begins_named Q)
begins_named (either P Q) = begins_named P || begins_named Q
begins_named (many f ends P) = begins_named P

abbrev ends_named : {A : Type 0} → Rule A → Bool
ends_named (nothing a) = false
ends_named (token s val) = is_name s
ends_named (level s i val) = is_name s || may_end i
ends_named (both f P Q) = ends_named Q || (nullable alphabet Q && ends_named P)
ends_named (either P Q) = ends_named P || ends_named Q
ends_named (many f ends P) = ends_named P

-- the sign that opens a level is no name
abbrev keeps_apart : {A : Type 0} → Rule A → Bool
keeps_apart (nothing a) = true
keeps_apart (token s val) = true
keeps_apart (level s i val) = not (is_name s)
keeps_apart (both f P Q) = keeps_apart P && (keeps_apart Q && not (ends_named P && begins_named Q))
keeps_apart (either P Q) = keeps_apart P && keeps_apart Q
keeps_apart (many f ends P) = keeps_apart P && not (ends_named P && begins_named P)

-- ---- what is known of tokens that a rule derives

record Fine (begins ends : Bool) (ts : List Token) : Type 0 where
  apart : are_apart false ts ≡ true
  first : starts_so ts ≡ true → begins ≡ true
  last : ends_so false ts ≡ true → ends ≡ true

clash : (a : Bool) → a ≡ true → a ≡ false → ⊥
clash true e f = cc
clash false e f = cc

not_both : (a b : Bool) → not (a && b) ≡ true → a ≡ true → b ≡ true → ⊥
not_both true true h e f = cc
not_both true false h e f = cc
not_both false b h e f = cc

false_unless : (a : Bool) → (a ≡ true → ⊥) → a ≡ false
false_unless true h = absurd (h refl)
false_unless false h = refl

-- tokens behind others, where no name of these is followed by a name
behind_tokens : (us vs : List Token) → are_apart false us ≡ true → are_apart false vs ≡ true
    → (ends_so false us ≡ true → starts_so vs ≡ true → ⊥) → are_apart false (us ++ vs) ≡ true
behind_tokens us vs a b never = apart_append false us vs ∙ by_end (ends_so false us) refl
  where
    by_end : (e : Bool) → ends_so false us ≡ e → are_apart false us && are_apart e vs ≡ true
    by_end true is = ap (λ x. x && are_apart true vs) a ∙ behind_name vs (false_unless (starts_so vs) (never is)) b
    by_end false is = ap (λ x. x && are_apart false vs) a ∙ b

starts_append : (us vs : List Token) → starts_so (us ++ vs) ≡ true → (starts_so us ≡ true → ⊥)
    → (us ≡ []) × (starts_so vs ≡ true)
starts_append [] vs h never = (refl, h)
starts_append (t ∷ us) vs h never = absurd (never h)

fine_both : (pb pe qb qe pn qn : Bool) (us vs : List Token) → Fine pb pe us → Fine qb qe vs → not (pe && qb) ≡ true
    → (us ≡ [] → pn ≡ true) → (vs ≡ [] → qn ≡ true) → Fine (pb || (pn && qb)) (qe || (qn && pe)) (us ++ vs)
fine_both pb pe qb qe pn qn us vs P Q never empty_first empty_second = record {
  apart = behind_tokens us vs P.apart Q.apart (λ e s. not_both pe qb never (P.last e) (Q.first s));
  first = first us P.first empty_first;
  last = last vs Q.last empty_second;
}
  where
    first : (us : List Token) → (starts_so us ≡ true → pb ≡ true) → (us ≡ [] → pn ≡ true) → starts_so (us ++ vs) ≡ true
        → pb || (pn && qb) ≡ true
    first [] p none h = let n = none refl in let b = Q.first h in or_right pb (pn && qb) (ap (λ x. x && qb) n ∙ b)
    first (t ∷ us) p none h = or_left pb (pn && qb) (p h)

    last : (vs : List Token) → (ends_so false vs ≡ true → qe ≡ true) → (vs ≡ [] → qn ≡ true)
        → ends_so false (us ++ vs) ≡ true → qe || (qn && pe) ≡ true
    last [] q none h =
        let n = none refl in
        let e = P.last (sym (ends_append false us []) ∙ h) in
        or_right qe (qn && pe) (ap (λ x. x && pe) n ∙ e)
    last (t ∷ vs) q none h = or_left qe (qn && pe) (q (sym (ends_append false us (t ∷ vs)) ∙ h))

or_same : (b : Bool) → b || b ≡ b
or_same true = refl
or_same false = refl

-- the tokens in a level
record FineInside (ends : Bool) (ts : List Token) : Type 0 where
  apart : are_apart false ts ≡ true
  last : ends_so false ts ≡ true → ends ≡ true

fine_token : (s : Class) (t : Token) → is_same s (class_of t.kind) ≡ true → Fine (is_name s) (is_name s) (t ∷ [])
fine_token s t is =
    record { apart = refl; first = same_named s (class_of t.kind) is; last = same_named s (class_of t.kind) is }

fine_level : (s : Class) (i : Inner) (t : Token) (ts : List Token) → is_same s (class_of t.kind) ≡ true
    → not (is_name s) ≡ true → FineInside (may_end i) ts → Fine (is_name s) (is_name s || may_end i) (t ∷ ts)
fine_level s i t ts is never h =
    let sign : is_named t ≡ false =
    false_unless (is_named t)
    (λ n. not_both (is_name s) true (ap (λ b. not b) (and_true (is_name s)) ∙ never)
    (same_named s (class_of t.kind) is n) refl) in
    record {
      apart = ap (λ b. are_apart b ts) sign ∙ h.apart;
      first = same_named s (class_of t.kind) is;
      last = λ e. or_right (is_name s) (may_end i) (h.last (sym (ap (λ b. ends_so b ts) sign) ∙ e));
    }
  where
    and_true : (b : Bool) → b && true ≡ b
    and_true true = refl
    and_true false = refl

module _ (I : (i : Inner) → Lang alphabet (Value i))
    (inside : (i : Inner) (n k : ℕ) (ts : List Token) (y : Value i) → I i n k ts y → FineInside (may_end i) ts) where
  fine_opened : (i : Inner) (ts : List Token) (y : Value i) (n k : ℕ) → Opened alphabet (λ n k. I i n k ts y) n k
      → FineInside (may_end i) ts
  fine_opened i ts y n zero h = inside i zero zero ts y h
  fine_opened i ts y zero (suc k) h = absurd h
  fine_opened i ts y (suc n) (suc k) h = inside i n k ts y h

  fine_many : {A : Type 0} (P : Rule A) (ends : A → Bool) → not (ends_named P && begins_named P) ≡ true
      → ((n k : ℕ) (ts : List Token) (x : A) → Derives alphabet I P n k ts x → Fine (begins_named P) (ends_named P) ts)
      → (xs : List A) (n k : ℕ) (ts : List Token) → Many alphabet (Derives alphabet I P) ends n k ts xs
      → Fine (begins_named P) (ends_named P) ts
  fine_many P ends never one [] n k ts m = subst (λ l. Fine (begins_named P) (ends_named P) l) (sym m)
      (record { apart = refl; first = λ e. absurd cc; last = λ e. absurd cc })
  fine_many P ends never one (x ∷ xs) n k ts m =
      let b = begins_named P in
      let e = ends_named P in
      let two =
      fine_both b e b e true true m.0 m.1 (one n k m.0 x m.3) (fine_many P ends never one xs n (left k m.0) m.1 m.4)
      never (λ is. refl) (λ is. refl) in
      subst (λ l. Fine b e l) (sym m.2)
      (subst (λ a. Fine a e (m.0 ++ m.1)) (or_same b) (subst (λ a. Fine (b || b) a (m.0 ++ m.1)) (or_same e) two))

  fine : {A : Type 0} (F : Rule A) → keeps_apart F ≡ true → (n k : ℕ) (ts : List Token) (x : A)
      → Derives alphabet I F n k ts x → Fine (begins_named F) (ends_named F) ts
  fine (nothing a) keeps n k ts x h =
      subst (λ l. Fine false false l) (sym h.0) (record { apart = refl; first = λ e. e; last = λ e. e })
  fine (token s val) keeps n k ts x h = subst (λ l. Fine (is_name s) (is_name s) l) (sym h.1) (fine_token s h.0 h.2)
  fine (level s i val) keeps n k ts x h =
      subst (λ l. Fine (is_name s) (is_name s || may_end i) l) (sym h.3)
      (fine_level s i h.0 h.1 h.4 keeps (fine_opened i h.1 h.2 n k h.5))
  fine (both f P Q) keeps n k ts x h =
      let parts = and_parts (keeps_apart P) (keeps_apart Q && not (ends_named P && begins_named Q)) keeps in
      let more = and_parts (keeps_apart Q) (not (ends_named P && begins_named Q)) parts.1 in
      subst (λ l. Fine (begins_named (both f P Q)) (ends_named (both f P Q)) l) (sym h.split)
      (fine_both (begins_named P) (ends_named P) (begins_named Q) (ends_named Q) (nullable alphabet P)
      (nullable alphabet Q) h.front h.back
      (fine P parts.0 n k h.front h.a h.first) (fine Q more.0 n (left k h.front) h.back h.b h.second) more.1
      (null_sound alphabet I P n k h.front h.a h.first)
      (null_sound alphabet I Q n (left k h.front) h.back h.b h.second))
  fine (either P Q) keeps n k ts x (inl h) =
      let parts = and_parts (keeps_apart P) (keeps_apart Q) keeps in
      let p = fine P parts.0 n k ts x h in
      record {
        apart = p.apart;
        first = λ e. or_left (begins_named P) (begins_named Q) (p.first e);
        last = λ e. or_left (ends_named P) (ends_named Q) (p.last e);
      }
  fine (either P Q) keeps n k ts x (inr h) =
      let parts = and_parts (keeps_apart P) (keeps_apart Q) keeps in
      let q = fine Q parts.1 n k ts x h in
      record {
        apart = q.apart;
        first = λ e. or_right (begins_named P) (begins_named Q) (q.first e);
        last = λ e. or_right (ends_named P) (ends_named Q) (q.last e);
      }
  fine (many f ends P) keeps n k ts x h =
      let parts = and_parts (keeps_apart P) (not (ends_named P && begins_named P)) keeps in
      fine_many P ends parts.1 (fine P parts.0) h.0 n k ts h.1

-- ---- the grammar of the language

module _ (bytes : List ℕ) where
  rule_apart : (i : Inner) → keeps_apart (inner bytes i) ≡ true
  unfolding whole_grammar
  rule_apart Operand = refl
  rule_apart Parens = refl
  rule_apart Index = refl
  rule_apart Arguments = refl
  rule_apart Parts = refl
  rule_apart Body = refl
  rule_apart Params = refl
  rule_apart Names = refl
  rule_apart Cells = refl

  rule_ends : (i : Inner) → ends_named (inner bytes i) ≡ may_end i
  unfolding whole_grammar
  rule_ends Operand = refl
  rule_ends Parens = refl
  rule_ends Index = refl
  rule_ends Arguments = refl
  rule_ends Parts = refl
  rule_ends Body = refl
  rule_ends Params = refl
  rule_ends Names = refl
  rule_ends Cells = refl

  program_apart : keeps_apart (program bytes) ≡ true
  unfolding whole_grammar
  program_apart = refl

  fine_nested : (d : ℕ) (i : Inner) (n k : ℕ) (ts : List Token) (y : Value i)
      → Nested alphabet (inner bytes) d i n k ts y → FineInside (may_end i) ts
  fine_nested zero i n k ts y h = absurd h
  fine_nested (suc d) i n k ts y h =
      let f = fine (Nested alphabet (inner bytes) d) (fine_nested d) (inner bytes i) (rule_apart i) n k ts y h in
      record { apart = f.apart; last = λ e. sym (rule_ends i) ∙ f.last e }

  fine_any : (i : Inner) (n k : ℕ) (ts : List Token) (y : Value i) → AnyNested alphabet (inner bytes) i n k ts y
      → FineInside (may_end i) ts
  fine_any i n k ts y h = fine_nested h.0 i n k ts y h.1

  pub program_is_apart : (ts : List Token) (p : ProgramTree) → IsProgram bytes ts p → are_apart false ts ≡ true
  program_is_apart ts p h =
      (fine (AnyNested alphabet (inner bytes)) fine_any (program bytes) program_apart 200 (length ts) ts p
      h.whole).apart

-- no two names stand side by side
pub no_two : (before : Bool) (us vs : List Token) (s t : Token) → is_named s ≡ true → is_named t ≡ true
    → are_apart before (us ++ s ∷ t ∷ vs) ≡ true → ⊥
no_two before us vs s t m n h =
    let parts =
    and_parts (are_apart before us) (are_apart (ends_so before us) (s ∷ t ∷ vs))
    (sym (apart_append before us (s ∷ t ∷ vs)) ∙ h) in
    let more = and_parts (not (ends_so before us && is_named s)) (are_apart (is_named s) (t ∷ vs)) parts.1 in
    let last = and_parts (not (is_named s && is_named t)) (are_apart (is_named t) vs) more.1 in
    not_both (is_named s) (is_named t) last.0 m n

-- A parser leaves no negative number where none was.
use Rattle.std.proofs.Common.{◌≡◌, ◌≤ℤ◌, ℕ, ℤ, pos, zero, suc, Bool, true, false, cond, List, [], ◌∷◌, ◌++◌, length, Option, Some, None, sym, subst, arith}
use Rattle.std.proofs.lemmas.List.Elements.{All-head, All-tail, All-weaker}
use Rattle.std.proofs.lemmas.Int.{ints}
use Rattle.std.specs.List.{All}
use Rattle.std.specs.Prelude.{slice_range}
use Rattle.rev_num.specs.Decimal.{spelled}
use Rattle.rev_syntax.specs.declared.token.PieceKind.TheVariants as piece
use Rattle.rev_syntax.specs.declared.token.TokenKind.{TokenKind}
use Rattle.rev_syntax.specs.Tokens.{Spells, IsToken}
use Rattle.rev_syntax.specs.declared.token.Token.{Token}
use Rattle.rev_syntax.specs.declared.token.TokenKind.TheVariants as k
use Rattle.rev_expressions.specs.Form.{nothing, token, level, both, either, many}
use Rattle.rev_expressions.specs.Outcome.{Outcome, Read, Failed, Parser, and_then, after, next, Unexpected}
use Rattle.rev_expressions.specs.Reader.{Inside, begins, inside_of, read, repeat, below, taken}
use Rattle.rev_expressions.specs.Classes.{Class, class_of, is_same}
use Rattle.rev_expressions.specs.Source.{int_of}
use Rattle.rev_expressions.specs.Grammar.{alphabet, Rule, Inner, Value}
use Rattle.rev_expressions.specs.Declarations.{inner}
use Rattle.rev_expressions.specs.Parse.{parse}
use Rattle.rev_parse.specs.Pieces.{AreNatural}

-- ---- the tokens of a text

token_natural : (kd : TokenKind) (w : List ℕ) → Spells (piece.Token kd) w → pos 0 ≤ℤ int_of kd
token_natural (k.Int n) w h = subst (λ n. pos 0 ≤ℤ n) (sym h.value) (any_natural (spelled w))
  where
    any_natural : (m : ℕ) → pos 0 ≤ℤ pos m
    any_natural m = omega (arith, ints)
token_natural _ w h = zero_natural
  where
    zero_natural : pos 0 ≤ℤ pos 0
    zero_natural = omega (arith, ints)

-- a number of the text is one or more digits
pub natural_tokens : (bytes : List ℕ) (ts : List Token) → All (IsToken bytes) ts → AreNatural ts
unfolding AreNatural
natural_tokens bytes ts h =
    All-weaker (IsToken bytes) (λ t. pos 0 ≤ℤ int_of t.kind)
    (λ t one. token_natural t.kind (slice_range bytes t.start t.end) one) ts h

-- ---- what is left

pub natural_after : (ts : List Token) → AreNatural ts → AreNatural (after ts)
unfolding AreNatural
natural_after [] h = h
natural_after (t ∷ ts) h = All-tail (λ t. pos 0 ≤ℤ int_of t.kind) t ts h

natural_next : (t : Token) (ts : List Token) → next ts ≡ Some t → AreNatural ts → pos 0 ≤ℤ int_of t.kind
unfolding AreNatural
natural_next t [] e h = absurd cc
natural_next t (x ∷ ts) e h =
    let same : x ≡ t = cc in
    subst (λ t. pos 0 ≤ℤ int_of t.kind) same (All-head (λ t. pos 0 ≤ℤ int_of t.kind) x ts h)

pub natural_number : (t : Token) (n : ℤ) (ts : List Token) → next ts ≡ Some t → t.kind ≡ k.Int n → AreNatural ts
    → pos 0 ≤ℤ n
natural_number t n ts e is h = subst (λ kd. pos 0 ≤ℤ int_of kd) is (natural_next t ts e h)

-- none is left behind what was read
abbrev Kept : {A : Type 0} → Outcome Token A → Type 0
Kept (Read a rest) = AreNatural rest
Kept (Failed e rest) = Unit {0}

kept_then : {A B : Type 0} (o : Outcome Token A) (g : A → Parser Token B) → Kept o
    → ((a : A) (rest : List Token) → AreNatural rest → Kept (g a rest)) → Kept (and_then o g)
kept_then (Read a rest) g h k = k a rest h
kept_then (Failed e rest) g h k = tt

kept_cond : {A : Type 0} (b : Bool) (x y : Outcome Token A) → Kept x → Kept y → Kept (cond b x y)
kept_cond true x y h k = h
kept_cond false x y h k = k

kept_taken : {A : Type 0} (s : Class) (val : Token → A) (ts : List Token) → AreNatural ts
    → Kept (taken alphabet s val (next ts) ts)
kept_taken s val [] h = tt
kept_taken s val (t ∷ ts) h =
    kept_cond (is_same s (class_of t.kind)) (Read (val t) ts) (Failed Unexpected (t ∷ ts)) (natural_after (t ∷ ts) h) tt

kept_repeat : {A : Type 0} (p : Parser Token A) (ends : A → Bool) (more : List Token → Bool)
    → ((ts : List Token) → AreNatural ts → Kept (p ts)) → (m : ℕ) (found : List A) (ts : List Token) → AreNatural ts
    → Kept (repeat alphabet p ends more m found ts)
kept_repeat p ends more k zero found ts h = h
kept_repeat p ends more k (suc m) found ts h =
    kept_cond (more ts) _ (Read found ts)
    (kept_then (p ts) _ (k ts h)
    (λ a rest r.
    kept_cond (ends a) (Read (found ++ a ∷ []) rest) _ r (kept_repeat p ends more k m (found ++ a ∷ []) rest r)))
    h

abbrev KeptInside : Option (Inside alphabet) → Type 0
KeptInside None = Unit {0}
KeptInside (Some p) = (i : Inner) (ts : List Token) → AreNatural ts → Kept (p i ts)

kept_inside : {A : Type 0} (o : Option (Inside alphabet)) → KeptInside o
    → (i : Inner) (f : Value i → A) (ts : List Token) → AreNatural ts → Kept (inside_of alphabet o i f ts)
kept_inside None k i f ts h = tt
kept_inside (Some p) k i f ts h = kept_then (p i (after ts)) _ (k i (after ts) (natural_after ts h)) (λ y rest r. r)

kept_read : (o : Option (Inside alphabet)) → KeptInside o → {A : Type 0} (F : Rule A) (ts : List Token) → AreNatural ts
    → Kept (read alphabet o F ts)
unfolding read
kept_read o k (nothing a) ts h = h
kept_read o k (token s val) ts h = kept_taken s val ts h
kept_read o k (level s i val) [] h = tt
kept_read o k (level s i val) (t ∷ ts) h =
    kept_cond (is_same s (class_of t.kind)) _ (Failed Unexpected (t ∷ ts)) (kept_inside o k i (val t) (t ∷ ts) h) tt
kept_read o k (both f P Q) ts h =
    kept_then (read alphabet o P ts) _ (kept_read o k P ts h)
    (λ a rest r. kept_then (read alphabet o Q rest) _ (kept_read o k Q rest r) (λ b rest2 r2. r2))
kept_read o k (either P Q) ts h = kept_cond (begins alphabet P ts) _ _ (kept_read o k P ts h) (kept_read o k Q ts h)
kept_read o k (many f ends P) ts h =
    kept_then (repeat alphabet (read alphabet o P) ends (begins alphabet P) (length ts) [] ts) _
    (kept_repeat (read alphabet o P) ends (begins alphabet P) (kept_read o k P) (length ts) [] ts h) (λ xs rest r. r)

kept_below : (bytes : List ℕ) (n : ℕ) → KeptInside (below alphabet (inner bytes) n)
unfolding below
kept_below bytes zero = tt
kept_below bytes (suc n) =
    λ i ts h. kept_read (below alphabet (inner bytes) n) (kept_below bytes n) (inner bytes i) ts h

pub natural_rest : {A : Type 0} (bytes : List ℕ) (n : ℕ) (F : Rule A) (ts rest : List Token) (a : A)
    → parse bytes n F ts ≡ Read a rest → AreNatural ts → AreNatural rest
natural_rest bytes n F ts rest a e h =
    subst (λ o. Kept o) e (kept_read (below alphabet (inner bytes) n) (kept_below bytes n) F ts h)

pub natural_taken : {A : Type 0} (s : Class) (val : Token → A) (ts rest : List Token) (a : A)
    → taken alphabet s val (next ts) ts ≡ Read a rest → AreNatural ts → AreNatural rest
natural_taken s val ts rest a e h = subst (λ o. Kept o) e (kept_taken s val ts h)

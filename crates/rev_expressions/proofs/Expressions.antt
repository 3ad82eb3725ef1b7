-- Equations of the parser of expressions, one for each way that a function of it goes.
use Rattle.std.proofs.Common.{◌≡◌, ◌≢◌, ℕ, suc, true, false, cond, ◌&&◌, ◌||◌, List, [], ◌∷◌, length, Option, Some, None, refl, sym, ap, ◌∙◌, subst}
use Rattle.rev_syntax.specs.declared.token.Token.{Token}
use Rattle.rev_syntax.specs.declared.token.TokenKind.{TokenKind}
use Rattle.rev_syntax.specs.declared.token.TokenKind.TheVariants as k
use Rattle.rev_syntax.specs.Trees.{PlacedName, Expression, placed, var, cell, apply, input, pick, unary as unary_expression}
use Rattle.rev_syntax.specs.View.{expressions_of}
use Rattle.rev_syntax.specs.declared.tree.UnaryOp.TheVariants as u
use Rattle.rev_syntax.specs.declared.token.Fixed.{Fixed}
use Rattle.rev_syntax.specs.declared.token.Fixed.TheVariants as s
use Rattle.rev_expressions.specs.declared.expression.Rank.{Rank}
use Rattle.rev_expressions.specs.declared.expression.Rank.TheVariants as r
use Rattle.rev_expressions.specs.Classes.{Class, is_same}
use Rattle.rev_expressions.specs.Source.{word_of}
use Rattle.rev_expressions.specs.Outcome.{Outcome, Read, Failed, and_then, after, next, Unexpected, TooDeep}
use Rattle.rev_expressions.specs.Reader.{begins, first, nullable, passes, next_kind, is_next, read, below, inside_of, Inside}
use Rattle.rev_expressions.specs.Grammar.{alphabet, Inner, Value, Operand, Parens, Index, Arguments, Parts, before, rank_sign, bracketed, choice, name, name_tail, primary, unary, product, sum, comparison, conjunction, expr, parens, index, arguments, parts, listed, listing, joined, moved}
use Rattle.rev_expressions.specs.Declarations.{inner}
use Rattle.rev_expressions.specs.Parse.{expected, parse, inside, links, of_name, of_parts, sign_at, expr_begins}
use Rattle.rev_expressions.specs.Lists.{more_listed}
use Rattle.rev_expressions.proofs.Turns.{or_nothing, same_outcome, below_is, below_none}
use Rattle.rev_expressions.proofs.Lists.{listed_is}
use Rattle.rev_expressions.specs.Classes as class

-- ---- a value behind another

pub twice : {A B C : Type 0} (f : A → B) (g : B → C) (o : Outcome Token A)
    → and_then (and_then o (λ a rest. Read (f a) rest)) (λ b rest. Read (g b) rest)
    ≡ and_then o (λ a rest. Read (g (f a)) rest)
twice f g (Read a rest) = refl
twice f g (Failed e rest) = refl

abbrev pub E : List ℕ → ℕ → List Token → Outcome Token Expression
E bytes m = parse bytes m (expr bytes)

abbrev pub K : Fixed → List Token → Outcome Token (Unit {0})
K = expected

abbrev double : Expression → Expression → Expression × Expression
double a b = (a, b)

abbrev triple : Expression → Expression → Expression → Expression × Expression × Expression
triple c a b = (c, a, b)

-- a token of another kind at the same place
abbrev pub at_kind : TokenKind → Token → Token
at_kind kd t = record { kind = kd; start = t.start; end = t.end }

pub by_kind : (P : Token → Type 0) (t : Token) (kd : TokenKind) → t.kind ≡ kd → P (at_kind kd t) → P t
by_kind P t kd e h = subst (λ kd. P (at_kind kd t)) (sym e) h

-- what holds of the tokens that begin with this one
pub by_next : (P : List Token → Type 0) (t : Token) (ts : List Token) → next ts ≡ Some t
    → ((rest : List Token) → P (t ∷ rest)) → P ts
by_next P t [] e h = absurd cc
by_next P t (x ∷ rest) e h = let same : t ≡ x = cc in subst (λ y. P (y ∷ rest)) same (h rest)

-- ---- levels

module _ (bytes : List ℕ) (n : ℕ) where
  pub inside_none : {A : Type 0} (i : Inner) (f : Value i → A) (ts : List Token) → n ≡ 0
      → inside bytes n i f ts ≡ Failed TooDeep ts
  inside_none i f ts e = ap (λ b. inside_of alphabet b i f ts) (below_none bytes n e)

  pub inside_go : {A : Type 0} (i : Inner) (f : Value i → A) (m : ℕ) (ts : List Token) → n ≡ suc m
      → inside bytes n i f ts ≡ and_then (parse bytes m (inner bytes i) (after ts)) (λ y rest. Read (f y) rest)
  inside_go i f m ts e = ap (λ b. inside_of alphabet b i f ts) (below_is bytes n m e)

  pub operand_go : (f : Expression → Expression) (m : ℕ) (ts : List Token) → n ≡ suc m
      → inside bytes n Operand f ts ≡ and_then (parse bytes m (unary bytes) (after ts)) (λ y rest. Read (f y) rest)
  unfolding inner
  operand_go f m ts e = inside_go Operand f m ts e

  -- an expression and the sign behind it
  abbrev pub B : ℕ → Fixed → List Token → Outcome Token Expression
  B m sign = parse bytes m (before (expr bytes) sign)

  pub index_go : {A : Type 0} (f : Expression → A) (m : ℕ) (ts : List Token) → n ≡ suc m
      → inside bytes n Index f ts ≡ and_then (B m s.CloseBracket (after ts)) (λ y rest. Read (f y) rest)
  unfolding inner index
  index_go f m ts e = inside_go Index f m ts e

  pub parens_go : (f : Expression → Expression) (m : ℕ) (ts : List Token) → n ≡ suc m
      → inside bytes n Parens f ts ≡ and_then (B m s.CloseParen (after ts)) (λ y rest. Read (f y) rest)
  unfolding inner parens
  parens_go f m ts e = inside_go Parens f m ts e

  pub arguments_go : {A : Type 0} (f : List Expression → A) (m : ℕ) (ts : List Token) → n ≡ suc m
      → inside bytes n Arguments f ts
      ≡ and_then (parse bytes m (arguments bytes) (after ts)) (λ y rest. Read (f y) rest)
  unfolding inner
  arguments_go f m ts e = inside_go Arguments f m ts e

  -- a closing sign behind a value
  abbrev pub closed : {A B : Type 0} → Fixed → (A → B) → Outcome Token A → Outcome Token B
  closed sign f o = and_then o (λ a rest. and_then (K sign rest) (λ x rest2. Read (f a) rest2))

  before_reads : (m : ℕ) (sign : Fixed) (ts : List Token) → B m sign ts ≡ closed sign (λ a. a) (E bytes m ts)
  unfolding read
  before_reads m sign ts = refl

  pub before_is : (sign : Fixed) (ts : List Token)
      → parse bytes n (before (expr bytes) sign) ts ≡ closed sign (λ a. a) (parse bytes n (expr bytes) ts)
  before_is sign ts = before_reads n sign ts

  pub arguments_are : (ts : List Token)
      → parse bytes n (arguments bytes) ts ≡ closed s.CloseParen (λ a. a) (parse bytes n (listing (expr bytes)) ts)
  unfolding read arguments
  arguments_are ts = refl

  pub parts_go : (at m : ℕ) (ts : List Token) → n ≡ suc m → of_parts at (inside bytes n Parts (λ p. p) ts) ≡
      and_then (B m s.Comma (after ts)) (λ c rest. and_then (B m s.Comma rest) (λ a rest2.
      and_then (B m s.CloseParen rest2) (λ b rest3. Read (placed at (pick c a b)) rest3)))
  unfolding inner read parts
  parts_go at m ts e = ap (of_parts at) (inside_go Parts (λ p. p) m ts e) ∙ by_first (B m s.Comma (after ts))
    where
      by_last : (c a : Expression) (o : Outcome Token Expression)
          → of_parts at (and_then (and_then
          (and_then (and_then o (λ b rest5. Read (double a b) rest5)) (λ ab rest5. Read (triple c ab.0 ab.1) rest5))
          (λ p rest5. and_then (K s.CloseParen rest5) (λ z rest6. Read p rest6)))
          (λ p rest6. Read p rest6))
          ≡ and_then (and_then o (λ b rest5. and_then (K s.CloseParen rest5) (λ z rest6. Read b rest6)))
          (λ b rest6. Read (placed at (pick c a b)) rest6)
      by_last c a (Read b rest5) =
          ap (of_parts at) (same_outcome (and_then (K s.CloseParen rest5) (λ z rest6. Read (triple c a b) rest6)))
          ∙ twice (λ z. triple c a b) (λ p. placed at (pick p.0 p.1 p.2)) (K s.CloseParen rest5)
          ∙ sym (twice (λ z. b) (λ b. placed at (pick c a b)) (K s.CloseParen rest5))
      by_last c a (Failed x rest5) = refl

      by_second : (c : Expression) (o : Outcome Token Expression)
          → of_parts at (and_then (and_then
          (and_then (and_then o (λ a rest4. and_then (E bytes m rest4) (λ b rest5. Read (double a b) rest5)))
          (λ ab rest5. Read (triple c ab.0 ab.1) rest5))
          (λ p rest5. and_then (K s.CloseParen rest5) (λ z rest6. Read p rest6)))
          (λ p rest6. Read p rest6))
          ≡ and_then o (λ a rest4.
          and_then (B m s.CloseParen rest4) (λ b rest6. Read (placed at (pick c a b)) rest6))
      by_second c (Read a rest4) =
          by_last c a (E bytes m rest4)
          ∙ ap (λ o. and_then o (λ b rest6. Read (placed at (pick c a b)) rest6))
          (sym (before_reads m s.CloseParen rest4))
      by_second c (Failed x rest4) = refl

      by_first : (o : Outcome Token Expression)
          → of_parts at (and_then (and_then
          (and_then o (λ c rest2. and_then
          (and_then (B m s.Comma rest2) (λ a rest4. and_then (E bytes m rest4) (λ b rest5. Read (double a b) rest5)))
          (λ ab rest5. Read (triple c ab.0 ab.1) rest5)))
          (λ p rest5. and_then (K s.CloseParen rest5) (λ z rest6. Read p rest6)))
          (λ p rest6. Read p rest6))
          ≡ and_then o (λ c rest2. and_then (B m s.Comma rest2) (λ a rest4.
          and_then (B m s.CloseParen rest4) (λ b rest6. Read (placed at (pick c a b)) rest6)))
      by_first (Read c rest2) = by_second c (B m s.Comma rest2)
      by_first (Failed x rest2) = refl

  -- ---- names

  pub name_end : (ts : List Token) → next ts ≡ None → parse bytes n (name bytes) ts ≡ Failed Unexpected ts
  unfolding read name
  name_end [] e = refl
  name_end (x ∷ ts) e = absurd cc

  module _ (t : Token) (ts : List Token) (is : next ts ≡ Some t) where
    pub name_yes : t.kind ≡ k.Name → parse bytes n (name bytes) ts ≡ Read (word_of bytes t) (after ts)
    unfolding read name
    name_yes h = by_next (λ ts. parse bytes n (name bytes) ts ≡ Read (word_of bytes t) (after ts)) t ts is
        (λ rest. by_kind (λ x. parse bytes n (name bytes) (x ∷ rest) ≡ Read (word_of bytes x) rest) t k.Name h refl)

    name_at : (rest : List Token) (kd : TokenKind) → kd ≢ k.Name
        → parse bytes n (name bytes) (at_kind kd t ∷ rest) ≡ Failed Unexpected (at_kind kd t ∷ rest)
    unfolding read name
    name_at rest k.Name a = absurd (a refl)
    name_at rest _ a = refl

    pub name_no : t.kind ≢ k.Name → parse bytes n (name bytes) ts ≡ Failed Unexpected ts
    name_no a = by_next (λ ts. parse bytes n (name bytes) ts ≡ Failed Unexpected ts) t ts is
        (λ rest. name_at rest t.kind a)

  -- ---- by the next token

  pub bracketed_no : (ts : List Token) → is_next alphabet (class.fixed s.OpenBracket) ts ≡ false
      → parse bytes n bracketed ts ≡ Failed Unexpected ts
  unfolding read bracketed
  bracketed_no [] e = refl
  bracketed_no (t ∷ ts) e = ap (λ b. cond b (inside bytes n Index (λ i. i) (t ∷ ts)) (Failed Unexpected (t ∷ ts))) e

  pub bracketed_yes : (ts : List Token) → is_next alphabet (class.fixed s.OpenBracket) ts ≡ true
      → parse bytes n bracketed ts ≡ inside bytes n Index (λ i. i) ts
  unfolding read bracketed
  bracketed_yes [] e = absurd cc
  bracketed_yes (t ∷ ts) e = ap (λ b. cond b (inside bytes n Index (λ i. i) (t ∷ ts)) (Failed Unexpected (t ∷ ts))) e

  pub choice_no : (at : ℕ) (ts : List Token) → is_next alphabet (class.fixed s.OpenParen) ts ≡ false
      → of_parts at (parse bytes n choice ts) ≡ Failed Unexpected ts
  unfolding read choice
  choice_no at [] e = refl
  choice_no at (t ∷ ts) e =
      ap (λ b. of_parts at (cond b (inside bytes n Parts (λ i. i) (t ∷ ts)) (Failed Unexpected (t ∷ ts)))) e

  pub choice_yes : (at : ℕ) (ts : List Token) → is_next alphabet (class.fixed s.OpenParen) ts ≡ true
      → of_parts at (parse bytes n choice ts) ≡ of_parts at (inside bytes n Parts (λ p. p) ts)
  unfolding read choice
  choice_yes at [] e = absurd cc
  choice_yes at (t ∷ ts) e =
      ap (λ b. of_parts at (cond b (inside bytes n Parts (λ i. i) (t ∷ ts)) (Failed Unexpected (t ∷ ts)))) e

  pub inside_then : {A B : Type 0} (i : Inner) (f : Value i → A) (g : A → B) (ts : List Token)
      → and_then (inside bytes n i f ts) (λ a rest. Read (g a) rest) ≡ inside bytes n i (λ y. g (f y)) ts
  inside_then i f g ts = by_below (below alphabet (inner bytes) n)
    where
      by_below : (b : Option (Inside alphabet))
          → and_then (inside_of alphabet b i f ts) (λ a rest. Read (g a) rest)
          ≡ inside_of alphabet b i (λ y. g (f y)) ts
      by_below None = refl
      by_below (Some p) = twice f g (p i (after ts))

  pub index_only : (m : ℕ) (ts : List Token) → n ≡ suc m
      → inside bytes n Index (λ i. i) ts ≡ B m s.CloseBracket (after ts)
  index_only m ts e = index_go (λ i. i) m ts e ∙ same_outcome (B m s.CloseBracket (after ts))

  pub parts_none : (at : ℕ) (ts : List Token) → n ≡ 0
      → of_parts at (inside bytes n Parts (λ p. p) ts) ≡ Failed TooDeep ts
  parts_none at ts e = ap (of_parts at) (inside_none Parts (λ p. p) ts e)

  module _ (w : PlacedName) (t : Token) (ts : List Token) (is : next ts ≡ Some t) where
    pub named_index : t.kind ≡ (k.Fixed s.OpenBracket)
        → of_name w (parse bytes n (name_tail bytes) ts) ≡ inside bytes n Index (λ i. placed w.at (cell w i)) ts
    unfolding read name_tail
    named_index h =
        by_next
        (λ ts. of_name w (parse bytes n (name_tail bytes) ts) ≡ inside bytes n Index (λ i. placed w.at (cell w i)) ts) t
        ts is (λ rest.
        by_kind (λ t.
        of_name w (parse bytes n (name_tail bytes) (t ∷ rest))
        ≡ inside bytes n Index (λ i. placed w.at (cell w i)) (t ∷ rest))
        t (k.Fixed s.OpenBracket) h
        (inside_then Index (λ i w. placed w.at (cell w i)) (λ f. f w) (at_kind (k.Fixed s.OpenBracket) t ∷ rest)))

    pub named_arguments : t.kind ≡ (k.Fixed s.OpenParen)
        → of_name w (parse bytes n (name_tail bytes) ts)
        ≡ inside bytes n Arguments (λ args. placed w.at (apply w (expressions_of args))) ts
    unfolding read name_tail
    named_arguments h =
        by_next (λ ts.
        of_name w (parse bytes n (name_tail bytes) ts)
        ≡ inside bytes n Arguments (λ args. placed w.at (apply w (expressions_of args))) ts)
        t ts is (λ rest.
        by_kind (λ t.
        of_name w (parse bytes n (name_tail bytes) (t ∷ rest))
        ≡ inside bytes n Arguments (λ args. placed w.at (apply w (expressions_of args))) (t ∷ rest))
        t (k.Fixed s.OpenParen) h
        (inside_then Arguments (λ args w. placed w.at (apply w (expressions_of args))) (λ f. f w)
        (at_kind (k.Fixed s.OpenParen) t ∷ rest)))

    named_at : (rest : List Token) (kd : TokenKind) → kd ≢ (k.Fixed s.OpenBracket) → kd ≢ (k.Fixed s.OpenParen)
        → of_name w (parse bytes n (name_tail bytes) (at_kind kd t ∷ rest))
        ≡ Read (placed w.at (var w)) (at_kind kd t ∷ rest)
    unfolding read name_tail
    named_at rest (k.Fixed s.OpenBracket) a b = absurd (a refl)
    named_at rest (k.Fixed s.OpenParen) a b = absurd (b refl)
    named_at rest _ a b = refl

    pub named_alone : t.kind ≢ (k.Fixed s.OpenBracket) → t.kind ≢ (k.Fixed s.OpenParen)
        → of_name w (parse bytes n (name_tail bytes) ts) ≡ Read (placed w.at (var w)) ts
    named_alone a b =
        by_next (λ ts. of_name w (parse bytes n (name_tail bytes) ts) ≡ Read (placed w.at (var w)) ts) t ts is
        (λ rest. named_at rest t.kind a b)

  pub named_end : (w : PlacedName) (ts : List Token) → next ts ≡ None
      → of_name w (parse bytes n (name_tail bytes) ts) ≡ Read (placed w.at (var w)) ts
  unfolding read name_tail
  named_end w [] e = refl
  named_end w (x ∷ rest) e = absurd cc

  module _ (t : Token) (ts : List Token) (is : next ts ≡ Some t) where
    abbrev Unary : Outcome Token Expression → Token → List Token → Type 0
    Unary o t rest = parse bytes n (unary bytes) (t ∷ rest) ≡ o

    pub unary_minus : t.kind ≡ (k.Fixed s.Minus)
        → parse bytes n (unary bytes) ts ≡ inside bytes n Operand (λ e. placed t.start (unary_expression u.Neg e)) ts
    unfolding read unary
    unary_minus h =
        by_next (λ ts.
        parse bytes n (unary bytes) ts ≡ inside bytes n Operand (λ e. placed t.start (unary_expression u.Neg e)) ts)
        t ts is (λ rest.
        by_kind (λ t.
        parse bytes n (unary bytes) (t ∷ rest)
        ≡ inside bytes n Operand (λ e. placed t.start (unary_expression u.Neg e)) (t ∷ rest))
        t (k.Fixed s.Minus) h refl)

    pub unary_bang : t.kind ≡ (k.Fixed s.Bang)
        → parse bytes n (unary bytes) ts ≡ inside bytes n Operand (λ e. placed t.start (unary_expression u.Not e)) ts
    unfolding read unary
    unary_bang h =
        by_next (λ ts.
        parse bytes n (unary bytes) ts ≡ inside bytes n Operand (λ e. placed t.start (unary_expression u.Not e)) ts)
        t ts is (λ rest.
        by_kind (λ t.
        parse bytes n (unary bytes) (t ∷ rest)
        ≡ inside bytes n Operand (λ e. placed t.start (unary_expression u.Not e)) (t ∷ rest))
        t (k.Fixed s.Bang) h refl)

    unary_at : (rest : List Token) (kd : TokenKind) → kd ≢ (k.Fixed s.Minus) → kd ≢ (k.Fixed s.Bang)
        → parse bytes n (unary bytes) (at_kind kd t ∷ rest) ≡ parse bytes n (primary bytes) (at_kind kd t ∷ rest)
    unfolding read unary
    unary_at rest (k.Fixed s.Minus) a b = absurd (a refl)
    unary_at rest (k.Fixed s.Bang) a b = absurd (b refl)
    unary_at rest _ a b = refl

    pub unary_else : t.kind ≢ (k.Fixed s.Minus) → t.kind ≢ (k.Fixed s.Bang)
        → parse bytes n (unary bytes) ts ≡ parse bytes n (primary bytes) ts
    unary_else a b =
        by_next (λ ts. parse bytes n (unary bytes) ts ≡ parse bytes n (primary bytes) ts) t ts is
        (λ rest. unary_at rest t.kind a b)

    pub primary_name : t.kind ≡ k.Name
        → parse bytes n (primary bytes) ts ≡ of_name (word_of bytes t) (parse bytes n (name_tail bytes) (after ts))
    unfolding read primary name
    primary_name h =
        by_next (λ ts.
        parse bytes n (primary bytes) ts ≡ of_name (word_of bytes t) (parse bytes n (name_tail bytes) (after ts)))
        t ts is (λ rest.
        by_kind (λ t.
        parse bytes n (primary bytes) (t ∷ rest) ≡ of_name (word_of bytes t) (parse bytes n (name_tail bytes) rest))
        t k.Name h refl)

    pub primary_input : t.kind ≡ (k.Fixed s.Input)
        → parse bytes n (primary bytes) ts
        ≡ and_then (parse bytes n bracketed (after ts)) (λ i rest. Read (placed t.start (input t.start i)) rest)
    unfolding read primary name
    primary_input h =
        by_next (λ ts.
        parse bytes n (primary bytes) ts
        ≡ and_then (parse bytes n bracketed (after ts)) (λ i rest. Read (placed t.start (input t.start i)) rest))
        t ts is (λ rest.
        by_kind (λ t.
        parse bytes n (primary bytes) (t ∷ rest)
        ≡ and_then (parse bytes n bracketed rest) (λ i rest. Read (placed t.start (input t.start i)) rest))
        t (k.Fixed s.Input) h refl)

    pub primary_pick : t.kind ≡ (k.Fixed s.Pick)
        → parse bytes n (primary bytes) ts ≡ of_parts t.start (parse bytes n choice (after ts))
    unfolding read primary name
    primary_pick h =
        by_next (λ ts. parse bytes n (primary bytes) ts ≡ of_parts t.start (parse bytes n choice (after ts))) t ts is
        (λ rest. by_kind (λ t. parse bytes n (primary bytes) (t ∷ rest) ≡ of_parts t.start (parse bytes n choice rest))
        t (k.Fixed s.Pick) h refl)

    pub primary_parens : t.kind ≡ (k.Fixed s.OpenParen)
        → parse bytes n (primary bytes) ts ≡ inside bytes n Parens (moved t.start) ts
    unfolding read primary name
    primary_parens h =
        by_next (λ ts. parse bytes n (primary bytes) ts ≡ inside bytes n Parens (moved t.start) ts) t ts is
        (λ rest. by_kind
        (λ t. parse bytes n (primary bytes) (t ∷ rest) ≡ inside bytes n Parens (moved t.start) (t ∷ rest)) t
        (k.Fixed s.OpenParen) h refl)

  pub unary_end : (ts : List Token) → next ts ≡ None → parse bytes n (unary bytes) ts ≡ Failed Unexpected ts
  unfolding read unary primary name
  unary_end [] e = refl
  unary_end (x ∷ rest) e = absurd cc

  pub expr_end : (ts : List Token) → next ts ≡ None → parse bytes n (expr bytes) ts ≡ Failed Unexpected ts
  unfolding read expr conjunction comparison sum product
  expr_end ts e =
      ap (λ o. and_then (and_then
      (and_then (and_then
      (and_then o (λ a r1. and_then (parse bytes n (links bytes r.Product) r1) (λ ls r2. Read (joined a ls) r2)))
      (λ a r1. and_then (parse bytes n (links bytes r.Sum) r1) (λ ls r2. Read (joined a ls) r2)))
      (λ a r1. and_then (parse bytes n (links bytes r.Compare) r1) (λ ls r2. Read (joined a ls) r2)))
      (λ a r1. and_then (parse bytes n (links bytes r.And) r1) (λ ls r2. Read (joined a ls) r2)))
      (λ a r1. and_then (parse bytes n (links bytes r.Or) r1) (λ ls r2. Read (joined a ls) r2)))
      (unary_end ts e)

  -- ---- lists

  pub begins_any : (ts : List Token) → begins alphabet (expr bytes) ts ≡ expr_begins ts
  unfolding rank_sign bracketed choice name name_tail primary unary product sum comparison conjunction expr
  begins_any ts = refl

  pub expr_not_null : nullable alphabet (expr bytes) ≡ false
  unfolding rank_sign bracketed choice name name_tail primary unary product sum comparison conjunction expr
  expr_not_null = refl

  listed_begins : (ts : List Token) → begins alphabet (listed (expr bytes)) ts ≡ begins alphabet (expr bytes) ts
  listed_begins ts = by_kind_of (next_kind alphabet ts)
    where
      not_null : nullable alphabet (expr bytes) ≡ false
      not_null = expr_not_null

      by_kind_of : (o : Option Class)
          → passes alphabet (first alphabet (listed (expr bytes))) o ≡ passes alphabet (first alphabet (expr bytes)) o
      by_kind_of None = refl
      by_kind_of (Some k) =
          ap (λ b. first alphabet (expr bytes) k || (b && (is_same (class.fixed s.Comma) k || false))) not_null
          ∙ or_nothing (first alphabet (expr bytes) k) (is_same (class.fixed s.Comma) k || false)

  pub listing_no : (ts : List Token) → expr_begins ts ≡ false → parse bytes n (listing (expr bytes)) ts ≡ Read [] ts
  unfolding read
  listing_no ts e =
      ap (λ b. cond b (parse bytes n (listed (expr bytes)) ts) (Read [] ts)) (listed_begins ts ∙ begins_any ts ∙ e)

  pub listing_yes : (ts : List Token) → expr_begins ts ≡ true
      → parse bytes n (listing (expr bytes)) ts
      ≡ and_then (parse bytes n (expr bytes) ts)
      (λ a rest. more_listed bytes n (expr bytes) (length rest) (a ∷ []) rest)
  unfolding read
  listing_yes ts e =
      ap (λ b. cond b (parse bytes n (listed (expr bytes)) ts) (Read [] ts)) (listed_begins ts ∙ begins_any ts ∙ e)
      ∙ listed_is bytes n (expr bytes) ts

-- an operator of a chain
pub sign_is : (bytes : List ℕ) (n : ℕ) (rank : Rank) (ts : List Token)
    → parse bytes n (rank_sign rank) ts ≡ sign_at rank ts
unfolding read rank_sign
sign_is bytes n r.Or ts = refl
sign_is bytes n r.And ts = refl
sign_is bytes n r.Compare ts = refl
sign_is bytes n r.Sum ts = refl
sign_is bytes n r.Product ts = refl

pub ruleset name_cases = (name_end, name_yes, name_no)

pub ruleset bracketed_cases = (bracketed_yes, inside_none)

pub ruleset pick_cases = (choice_yes, parts_none)

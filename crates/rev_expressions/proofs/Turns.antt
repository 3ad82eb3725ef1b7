-- Equations of the parser, for loops and levels.
use Rattle.std.proofs.Common.{◌≡◌, ℕ, zero, suc, Bool, true, false, cond, ◌&&◌, ◌||◌, List, [], ◌∷◌, ◌++◌, length, Option, Some, None, refl, ap, ◌∙◌, append_assoc}
use Rattle.rev_syntax.specs.declared.token.Token.{Token}
use Rattle.rev_syntax.specs.Trees.{Expression}
use Rattle.rev_syntax.specs.declared.tree.BinaryOp.{BinaryOp}
use Rattle.rev_expressions.specs.Outcome.{Outcome, Read, Failed, Parser, and_then, after}
use Rattle.rev_expressions.specs.Reader.{begins, first, nullable, passes, next_kind, read, repeat, below}
use Rattle.rev_expressions.specs.declared.expression.Rank.{Rank}
use Rattle.rev_expressions.specs.declared.expression.Rank.TheVariants as r
use Rattle.rev_expressions.specs.Grammar.{alphabet, rank_sign, linked, is_single, joined, ranked, operand, product, sum, comparison, conjunction, expr}
use Rattle.rev_expressions.specs.Classes.{Class}
use Rattle.rev_expressions.specs.Declarations.{inner}
use Rattle.rev_expressions.specs.Parse.{parse, links}

pub or_nothing : (a b : Bool) → a || (false && b) ≡ a
or_nothing true b = refl
or_nothing false b = refl

pub same_outcome : {A : Type 0} (o : Outcome Token A) → and_then o (λ a rest. Read a rest) ≡ o
same_outcome (Read a rest) = refl
same_outcome (Failed e rest) = refl

-- ---- levels

pub below_is : (bytes : List ℕ) (n m : ℕ) → n ≡ suc m
    → below alphabet (inner bytes) n ≡ Some (λ i. parse bytes m (inner bytes i))
unfolding below
below_is bytes n m e = ap (below alphabet (inner bytes)) e

pub below_none : (bytes : List ℕ) (n : ℕ) → n ≡ 0 → below alphabet (inner bytes) n ≡ None
unfolding below
below_none bytes n e = ap (below alphabet (inner bytes)) e

pub ruleset levels = (below_is, below_none)

-- ---- loops

module _ {A : Type 0} (p : Parser Token A) (ends : A → Bool) (more : List Token → Bool) where
  pub repeat_end : (k : ℕ) (found : List A) (ts : List Token) → k ≡ 0
      → repeat alphabet p ends more k found ts ≡ Read found ts
  repeat_end k found ts e = ap (λ n. repeat alphabet p ends more n found ts) e

  pub repeat_stop : (k : ℕ) (found : List A) (ts : List Token) → more ts ≡ false
      → repeat alphabet p ends more k found ts ≡ Read found ts
  repeat_stop zero found ts e = refl
  repeat_stop (suc k) found ts e =
      ap (λ b. cond b (and_then (p ts)
      (λ a rest. cond (ends a) (Read (found ++ a ∷ []) rest) (repeat alphabet p ends more k (found ++ a ∷ []) rest)))
      (Read found ts))
      e

  pub repeat_go : (k j : ℕ) (found : List A) (ts : List Token) → k ≡ suc j → more ts ≡ true
      → repeat alphabet p ends more k found ts
      ≡ and_then (p ts)
      (λ a rest. cond (ends a) (Read (found ++ a ∷ []) rest) (repeat alphabet p ends more j (found ++ a ∷ []) rest))
  repeat_go k j found ts n e =
      ap (λ n. repeat alphabet p ends more n found ts) n
      ∙ ap (λ b.
      cond b (and_then (p ts)
      (λ a rest. cond (ends a) (Read (found ++ a ∷ []) rest) (repeat alphabet p ends more j (found ++ a ∷ []) rest)))
      (Read found ts))
      e

  -- what was found before stands before
  pub found_before : (front : List A) (m : ℕ) (found : List A) (ts : List Token)
      → repeat alphabet p ends more m (front ++ found) ts
      ≡ and_then (repeat alphabet p ends more m found ts) (λ xs rest. Read (front ++ xs) rest)
  found_before front zero found ts = refl
  found_before front (suc m) found ts = by_test (more ts) (p ts) (λ a rest. found_before front m (found ++ a ∷ []) rest)
    where
      by_end : (b : Bool) (a : A) (rest : List Token)
          → repeat alphabet p ends more m (front ++ (found ++ a ∷ [])) rest
          ≡ and_then (repeat alphabet p ends more m (found ++ a ∷ []) rest) (λ xs rest. Read (front ++ xs) rest)
          → cond b (Read (front ++ (found ++ a ∷ [])) rest)
          (repeat alphabet p ends more m (front ++ (found ++ a ∷ [])) rest)
          ≡ and_then (cond b (Read (found ++ a ∷ []) rest) (repeat alphabet p ends more m (found ++ a ∷ []) rest))
          (λ xs rest. Read (front ++ xs) rest)
      by_end true a rest h = refl
      by_end false a rest h = h

      by_part : (o : Outcome Token A)
          → ((a : A) (rest : List Token)
          → repeat alphabet p ends more m (front ++ (found ++ a ∷ [])) rest
          ≡ and_then (repeat alphabet p ends more m (found ++ a ∷ []) rest) (λ xs rest. Read (front ++ xs) rest))
          → and_then o (λ a rest.
          cond (ends a) (Read ((front ++ found) ++ a ∷ []) rest)
          (repeat alphabet p ends more m ((front ++ found) ++ a ∷ []) rest))
          ≡ and_then (and_then o (λ a rest.
          cond (ends a) (Read (found ++ a ∷ []) rest) (repeat alphabet p ends more m (found ++ a ∷ []) rest)))
          (λ xs rest. Read (front ++ xs) rest)
      by_part (Read a rest) h =
          ap (λ l. cond (ends a) (Read l rest) (repeat alphabet p ends more m l rest))
          (append_assoc front found (a ∷ []))
          ∙ by_end (ends a) a rest (h a rest)
      by_part (Failed x rest) h = refl

      by_test : (b : Bool) (o : Outcome Token A)
          → ((a : A) (rest : List Token)
          → repeat alphabet p ends more m (front ++ (found ++ a ∷ [])) rest
          ≡ and_then (repeat alphabet p ends more m (found ++ a ∷ []) rest) (λ xs rest. Read (front ++ xs) rest))
          → cond b (and_then o (λ a rest.
          cond (ends a) (Read ((front ++ found) ++ a ∷ []) rest)
          (repeat alphabet p ends more m ((front ++ found) ++ a ∷ []) rest)))
          (Read (front ++ found) ts)
          ≡ and_then (cond b (and_then o
          (λ a rest.
          cond (ends a) (Read (found ++ a ∷ []) rest) (repeat alphabet p ends more m (found ++ a ∷ []) rest)))
          (Read found ts))
          (λ xs rest. Read (front ++ xs) rest)
      by_test true o h = by_part o h
      by_test false o h = refl

  all_read : (o : Outcome Token (List A)) → and_then o (λ xs rest. Read xs rest) ≡ o
  all_read (Read xs rest) = refl
  all_read (Failed e rest) = refl

-- ---- chains

pub ranked_is : (bytes : List ℕ) (n : ℕ) (rank : Rank) (ts : List Token)
    → parse bytes n (ranked bytes rank) ts
    ≡ and_then (parse bytes n (operand bytes rank) ts)
    (λ first rest. and_then (parse bytes n (links bytes rank) rest) (λ ls rest2. Read (joined first ls) rest2))
unfolding read product sum comparison conjunction expr
ranked_is bytes n r.Or ts = refl
ranked_is bytes n r.And ts = refl
ranked_is bytes n r.Compare ts = refl
ranked_is bytes n r.Sum ts = refl
ranked_is bytes n r.Product ts = refl

module _ (bytes : List ℕ) (n : ℕ) (rank : Rank) where
  -- the links behind those that were found, of which so many may come
  abbrev pub more_links : ℕ → List (BinaryOp × Expression) → Parser Token (List (BinaryOp × Expression))
  more_links = repeat alphabet (parse bytes n (linked (rank_sign rank) (operand bytes rank))) (λ l. is_single rank)
      (begins alphabet (linked (rank_sign rank) (operand bytes rank)))

  sign_is_token : (rank : Rank) → nullable alphabet (rank_sign rank) ≡ false
  unfolding rank_sign
  sign_is_token r.Or = refl
  sign_is_token r.And = refl
  sign_is_token r.Compare = refl
  sign_is_token r.Sum = refl
  sign_is_token r.Product = refl

  link_begins : (ts : List Token)
      → begins alphabet (linked (rank_sign rank) (operand bytes rank)) ts ≡ begins alphabet (rank_sign rank) ts
  link_begins ts = by_next (next_kind alphabet ts)
    where
      by_next : (o : Option Class)
          → passes alphabet (first alphabet (linked (rank_sign rank) (operand bytes rank))) o
          ≡ passes alphabet (first alphabet (rank_sign rank)) o
      by_next None = refl
      by_next (Some k) =
          ap (λ b. first alphabet (rank_sign rank) k || (b && first alphabet (operand bytes rank) k))
          (sign_is_token rank)
          ∙ or_nothing (first alphabet (rank_sign rank) k) (first alphabet (operand bytes rank) k)

  pub links_are : (ts : List Token) → parse bytes n (links bytes rank) ts ≡ more_links (length ts) [] ts
  unfolding read
  links_are ts =
      all_read (parse bytes n (linked (rank_sign rank) (operand bytes rank))) (λ l. is_single rank)
      (begins alphabet (linked (rank_sign rank) (operand bytes rank))) (more_links (length ts) [] ts)

  pub links_end : (k : ℕ) (found : List (BinaryOp × Expression)) (ts : List Token) → k ≡ 0
      → more_links k found ts ≡ Read found ts
  links_end = repeat_end (parse bytes n (linked (rank_sign rank) (operand bytes rank))) (λ l. is_single rank)
      (begins alphabet (linked (rank_sign rank) (operand bytes rank)))

  pub links_stop : (k : ℕ) (found : List (BinaryOp × Expression)) (ts : List Token)
      → begins alphabet (rank_sign rank) ts ≡ false → more_links k found ts ≡ Read found ts
  links_stop k found ts e =
      repeat_stop (parse bytes n (linked (rank_sign rank) (operand bytes rank))) (λ l. is_single rank)
      (begins alphabet (linked (rank_sign rank) (operand bytes rank))) k found ts (link_begins ts ∙ e)

  pub links_go : (k j : ℕ) (found : List (BinaryOp × Expression)) (ts : List Token) (o : BinaryOp) → k ≡ suc j
      → begins alphabet (rank_sign rank) ts ≡ true → parse bytes n (rank_sign rank) ts ≡ Read o (after ts)
      → more_links k found ts
      ≡ and_then (parse bytes n (operand bytes rank) (after ts))
      (λ e rest. cond (is_single rank) (Read (found ++ (o, e) ∷ []) rest) (more_links j (found ++ (o, e) ∷ []) rest))
  unfolding read
  links_go k j found ts o ek eb er =
      repeat_go (parse bytes n (linked (rank_sign rank) (operand bytes rank))) (λ l. is_single rank)
      (begins alphabet (linked (rank_sign rank) (operand bytes rank))) k j found ts ek (link_begins ts ∙ eb)
      ∙ ap (λ s.
      and_then
      (and_then s (λ o rest. and_then (parse bytes n (operand bytes rank) rest) (λ e rest2. Read (o, e) rest2)))
      (λ a rest. cond (is_single rank) (Read (found ++ a ∷ []) rest) (more_links j (found ++ a ∷ []) rest)))
      er
      ∙ twice (parse bytes n (operand bytes rank) (after ts))
    where
      twice : (x : Outcome Token Expression)
          → and_then (and_then x (λ e rest2. Read (o, e) rest2))
          (λ a rest. cond (is_single rank) (Read (found ++ a ∷ []) rest) (more_links j (found ++ a ∷ []) rest))
          ≡ and_then x (λ e rest.
          cond (is_single rank) (Read (found ++ (o, e) ∷ []) rest) (more_links j (found ++ (o, e) ∷ []) rest))
      twice (Read e rest) = refl
      twice (Failed e rest) = refl

pub ruleset link_turns = (links_end, links_stop, links_are)

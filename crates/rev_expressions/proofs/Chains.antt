-- Chains behind a first operand that was read.
use Rattle.std.proofs.Common.{◌≡◌, ℕ, Bool, true, false, ◌||◌, List, [], length, refl, ap, ◌∙◌, true≢false}
use Rattle.rev_syntax.specs.declared.token.Token.{Token}
use Rattle.rev_syntax.specs.Trees.{Expression}
use Rattle.rev_expressions.specs.Outcome.{Outcome, Parser, Read, Failed, and_then}
use Rattle.rev_expressions.specs.Reader.{begins}
use Rattle.rev_expressions.specs.declared.expression.Rank.{Rank}
use Rattle.rev_expressions.specs.declared.expression.Rank.TheVariants as r
use Rattle.rev_expressions.specs.Grammar.{alphabet, rank_sign, joined, ranked, unary, product, sum, comparison, conjunction, expr}
use Rattle.rev_expressions.specs.Parse.{parse, operator_begins, chain_behind, product_behind, sum_behind, comparison_behind, conjunction_behind, expr_behind, ranked_behind}
use Rattle.rev_expressions.proofs.Turns.{ranked_is, links_are, links_stop}

-- ---- no operator

left_none : (a b : Bool) → a || b ≡ false → a ≡ false
left_none true b h = h
left_none false b h = refl

right_none : (a b : Bool) → a || b ≡ false → b ≡ false
right_none true b h = absurd (true≢false h)
right_none false b h = h

abbrev comes : Rank → List Token → Bool
comes rank ts = begins alphabet (rank_sign rank) ts

-- where no operator up to this rank comes none of this rank does
rank_none : (rank : Rank) (ts : List Token) → operator_begins rank ts ≡ false → comes rank ts ≡ false
rank_none r.Product ts h = h
rank_none r.Sum ts h = right_none (comes r.Product ts) (comes r.Sum ts) h
rank_none r.Compare ts h = right_none (operator_begins r.Sum ts) (comes r.Compare ts) h
rank_none r.And ts h = right_none (operator_begins r.Compare ts) (comes r.And ts) h
rank_none r.Or ts h = right_none (operator_begins r.And ts) (comes r.Or ts) h

-- ---- chains behind a first operand

joint : {A B C : Type 0} (o : Outcome Token A) (f : A → Parser Token B) (g : B → Parser Token C)
    → and_then (and_then o f) g ≡ and_then o (λ a rest. and_then (f a rest) g)
joint (Read a rest) f g = refl
joint (Failed e rest) f g = refl

module _ (bytes : List ℕ) (n : ℕ) where
  -- without an operator of its rank a chain is its first operand
  pub chain_stop : (rank : Rank) (first : Expression) (ts : List Token) → comes rank ts ≡ false
      → chain_behind bytes n rank first ts ≡ Read first ts
  chain_stop rank first ts h =
      ap (λ o. and_then o (λ ls rest. Read (joined first ls) rest))
      (links_are bytes n rank ts ∙ links_stop bytes n rank (length ts) [] ts h)

  -- and so it is without an operator up to its rank
  pub chain_none : (rank : Rank) (first : Expression) (ts : List Token) → operator_begins rank ts ≡ false
      → chain_behind bytes n rank first ts ≡ Read first ts
  chain_none rank first ts h = chain_stop rank first ts (rank_none rank ts h)

  none_product : (first : Expression) (ts : List Token) → operator_begins r.Product ts ≡ false
      → product_behind bytes n first ts ≡ Read first ts
  none_product first ts h = chain_stop r.Product first ts (rank_none r.Product ts h)

  none_sum : (first : Expression) (ts : List Token) → operator_begins r.Sum ts ≡ false
      → sum_behind bytes n first ts ≡ Read first ts
  none_sum first ts h =
      ap (λ o. and_then o (λ e rest. chain_behind bytes n r.Sum e rest))
      (none_product first ts (left_none (operator_begins r.Product ts) (comes r.Sum ts) h))
      ∙ chain_stop r.Sum first ts (rank_none r.Sum ts h)

  none_comparison : (first : Expression) (ts : List Token) → operator_begins r.Compare ts ≡ false
      → comparison_behind bytes n first ts ≡ Read first ts
  none_comparison first ts h =
      ap (λ o. and_then o (λ e rest. chain_behind bytes n r.Compare e rest))
      (none_sum first ts (left_none (operator_begins r.Sum ts) (comes r.Compare ts) h))
      ∙ chain_stop r.Compare first ts (rank_none r.Compare ts h)

  none_conjunction : (first : Expression) (ts : List Token) → operator_begins r.And ts ≡ false
      → conjunction_behind bytes n first ts ≡ Read first ts
  none_conjunction first ts h =
      ap (λ o. and_then o (λ e rest. chain_behind bytes n r.And e rest))
      (none_comparison first ts (left_none (operator_begins r.Compare ts) (comes r.And ts) h))
      ∙ chain_stop r.And first ts (rank_none r.And ts h)

  none_expr : (first : Expression) (ts : List Token) → operator_begins r.Or ts ≡ false
      → expr_behind bytes n first ts ≡ Read first ts
  none_expr first ts h =
      ap (λ o. and_then o (λ e rest. chain_behind bytes n r.Or e rest))
      (none_conjunction first ts (left_none (operator_begins r.And ts) (comes r.Or ts) h))
      ∙ chain_stop r.Or first ts (rank_none r.Or ts h)

  -- without an operator up to this rank all chains are the first operand
  pub none_behind : (rank : Rank) (first : Expression) (ts : List Token) → operator_begins rank ts ≡ false
      → ranked_behind bytes n rank first ts ≡ Read first ts
  none_behind r.Product first ts h = none_product first ts h
  none_behind r.Sum first ts h = none_sum first ts h
  none_behind r.Compare first ts h = none_comparison first ts h
  none_behind r.And first ts h = none_conjunction first ts h
  none_behind r.Or first ts h = none_expr first ts h

  abbrev operand_at : List Token → Outcome Token Expression
  operand_at ts = parse bytes n (unary bytes) ts

  product_is : (ts : List Token)
      → parse bytes n (product bytes) ts ≡ and_then (operand_at ts) (λ e rest. product_behind bytes n e rest)
  product_is ts = ranked_is bytes n r.Product ts

  sum_is : (ts : List Token)
      → parse bytes n (sum bytes) ts ≡ and_then (operand_at ts) (λ e rest. sum_behind bytes n e rest)
  sum_is ts =
      ranked_is bytes n r.Sum ts
      ∙ ap (λ o. and_then o (λ e rest. chain_behind bytes n r.Sum e rest)) (product_is ts)
      ∙ joint (operand_at ts) (λ e rest. product_behind bytes n e rest) (λ e rest. chain_behind bytes n r.Sum e rest)

  comparison_is : (ts : List Token)
      → parse bytes n (comparison bytes) ts ≡ and_then (operand_at ts) (λ e rest. comparison_behind bytes n e rest)
  comparison_is ts =
      ranked_is bytes n r.Compare ts
      ∙ ap (λ o. and_then o (λ e rest. chain_behind bytes n r.Compare e rest)) (sum_is ts)
      ∙ joint (operand_at ts) (λ e rest. sum_behind bytes n e rest) (λ e rest. chain_behind bytes n r.Compare e rest)

  conjunction_is : (ts : List Token)
      → parse bytes n (conjunction bytes) ts ≡ and_then (operand_at ts) (λ e rest. conjunction_behind bytes n e rest)
  conjunction_is ts =
      ranked_is bytes n r.And ts
      ∙ ap (λ o. and_then o (λ e rest. chain_behind bytes n r.And e rest)) (comparison_is ts)
      ∙ joint (operand_at ts) (λ e rest. comparison_behind bytes n e rest) (λ e rest. chain_behind bytes n r.And e rest)

  expr_is : (ts : List Token)
      → parse bytes n (expr bytes) ts ≡ and_then (operand_at ts) (λ e rest. expr_behind bytes n e rest)
  expr_is ts =
      ranked_is bytes n r.Or ts
      ∙ ap (λ o. and_then o (λ e rest. chain_behind bytes n r.Or e rest)) (conjunction_is ts)
      ∙ joint (operand_at ts) (λ e rest. conjunction_behind bytes n e rest) (λ e rest. chain_behind bytes n r.Or e rest)

  -- an expression of a rank is an operand of the tightest, with the chains behind it
  pub ranked_is_behind : (rank : Rank) (ts : List Token)
      → parse bytes n (ranked bytes rank) ts
      ≡ and_then (parse bytes n (unary bytes) ts) (λ e rest. ranked_behind bytes n rank e rest)
  ranked_is_behind r.Product ts = product_is ts
  ranked_is_behind r.Sum ts = sum_is ts
  ranked_is_behind r.Compare ts = comparison_is ts
  ranked_is_behind r.And ts = conjunction_is ts
  ranked_is_behind r.Or ts = expr_is ts

-- Expressions that are parsed have few parts, in their forms, and lie no deeper than the levels allow.
use Rattle.std.proofs.Common.{◌≡◌, ℕ, suc, ◌+◌, ◌*◌, ◌≤◌, ◌<◌, Bool, true, false, ◌&&◌, ◌||◌, List, [], ◌∷◌, length, refl, sym, ap, subst, arith}
use Rattle.std.proofs.lemmas.Bool.{and_from, and_parts, le-leb, eq-eqb, eqb-true}
use Rattle.std.specs.Prelude.{nat_lt, ◌==◌, max}
use Rattle.rev_syntax.specs.Trees as t
use Rattle.rev_syntax.specs.Trees.{PlacedName, Expression, ExpressionForm}
use Rattle.rev_syntax.specs.View.{expressions_of, links_of}
use Rattle.rev_syntax.specs.declared.tree.UnaryOp.{UnaryOp}
use Rattle.rev_syntax.specs.declared.tree.UnaryOp.TheVariants as u
use Rattle.rev_syntax.specs.declared.tree.BinaryOp.{BinaryOp}
use Rattle.rev_syntax.specs.Small.{expression_count, links_count, nodes_around, nodes_around_links, chains_around, chains_around_links, name_formed, expression_formed, links_formed, strength, all_bind, is_chain, expression_small}
use Rattle.rev_syntax.specs.declared.token.Token.{Token}
use Rattle.rev_expressions.specs.Form.{token, level, both, Lang}
use Rattle.rev_expressions.specs.Classes as class
use Rattle.rev_expressions.specs.Classes.{Class}
use Rattle.rev_expressions.specs.declared.expression.Rank.{Rank}
use Rattle.rev_expressions.specs.declared.expression.Rank.TheVariants as r
use Rattle.rev_syntax.specs.declared.token.Fixed.{Fixed}
use Rattle.rev_syntax.specs.declared.token.Fixed.TheVariants as s
use Rattle.rev_expressions.specs.Source.{word_of}
use Rattle.rev_expressions.specs.Grammar.{alphabet, Rule, Inner, Value, Operand, Index, Parts, place, moved, joined, operator, linked, rank_sign, is_single, links_by, bracketed, choice, name, name_tail, primary, unary, product, sum, comparison, conjunction, expr, parens, index, arguments, parts}
use Rattle.rev_parse.specs.Verdicts.{most_levels}
use Rattle.rev_parse.proofs.TextTokens.{IsProper, span, proper_name, word_length}
use Rattle.rev_parse.proofs.SizeOfValues.{IsSmallName, IsSmallExpression, AreSmallArguments, AreSmallParts, IsSome, Has}
use Rattle.rev_parse.proofs.Holds.{Within, Grows, GrowsTo, holds_within, holds_before, holds_listing, Holds, Inside, holds_nothing, holds_token, holds_both, holds_either, holds_many, holds_level}

-- how tightly the operators of a rank bind
abbrev strength_of : Rank → ℕ
strength_of r.Product = 5
strength_of r.Sum = 4
strength_of r.Compare = 3
strength_of r.And = 2
strength_of r.Or = 1

record IsOperator (rank : Rank) (n w : ℕ) (op : BinaryOp) : Type 0 where
  some : 1 ≤ w
  binds : strength op ≡ strength_of rank

record IsSmallLink (rank : Rank) (of n w : ℕ) (x : BinaryOp × Expression) : Type 0 where
  few : 2 + expression_count x.1 ≤ 3 * w
  formed : expression_formed x.1 ≡ true
  nodes : nodes_around x.1 ≤ n
  chains : chains_around x.1 ≤ 5 * n + of
  binds : strength x.0 ≡ strength_of rank

record AreSmallLinks (rank : Rank) (of n w : ℕ) (xs : List (BinaryOp × Expression)) : Type 0 where
  few : links_count (links_of xs) + length xs ≤ 3 * w
  formed : links_formed (links_of xs) ≡ true
  nodes : nodes_around_links (links_of xs) ≤ n
  chains : chains_around_links (links_of xs) ≤ 5 * n + of
  bind : all_bind (strength_of rank) (links_of xs) ≡ true
  alone : is_single rank ≡ true → length xs ≤ 1

-- what follows a name, at each name
record IsSmallTail (n w : ℕ) (f : PlacedName → Expression) : Type 0 where
  at_name : (u : ℕ) (x : PlacedName) → IsSmallName n u x → IsSmallExpression 0 n (u + w) (f x)

-- ---- what the parts make

pub name_small : (bytes : List ℕ) (n w : ℕ) (x : Token) → IsProper bytes x → name_formed (word_of bytes x) ≡ true
    → span x ≤ w → IsSmallName n w (word_of bytes x)
name_small bytes n w x h formed weight =
    let size = word_length bytes x in
    let some : x.start < x.end = h.some in
    record { few = omega arith; formed = formed }

pub expression_is_small : (n w : ℕ) (x : Expression) → n ≤ most_levels → IsSmallExpression 5 n w x
    → expression_small x ≡ true
expression_is_small n w x levels h =
    and_from _ _ (and_from _ _ h.formed (le-leb (nodes_around x) 200 (omega arith)))
    (le-leb (chains_around x) 1005 (omega arith))

-- ---- chains

links_start : (rank : Rank) (of n w : ℕ) → AreSmallLinks rank of n w []
links_start rank of n w = record {
  few = omega arith;
  formed = refl;
  nodes = omega arith;
  chains = omega arith;
  bind = refl;
  alone = λ e. omega arith;
}

links_grow : (rank : Rank) (of : ℕ) → GrowsTo (λ l. is_single rank) (IsSmallLink rank of) (AreSmallLinks rank of)
links_grow rank of n u v x xs levels one more ends = record {
  few = omega arith;
  formed = and_from _ _ one.formed more.formed;
  nodes = omega arith;
  chains = omega arith;
  bind = and_from _ _ (eq-eqb (strength x.0) (strength_of rank) one.binds) more.bind;
  alone = λ e. let none = ap length (ends e) in omega arith;
}

-- behind the first of more operators of a rank
goes_on : (rank : Rank) (x : BinaryOp × Expression) (xs : List (BinaryOp × Expression))
    → all_bind (strength_of rank) (links_of (x ∷ xs)) ≡ true → (is_single rank ≡ true → suc (suc (length xs)) ≤ 1)
    → (nat_lt 3 (strength_of rank) || nat_lt (strength_of rank) 3) && all_bind (strength_of rank) (links_of (x ∷ xs))
    ≡ true
goes_on r.Product x xs e alone = e
goes_on r.Sum x xs e alone = e
goes_on r.Compare x xs e alone = absurd (let clash = alone refl in omega arith)
goes_on r.And x xs e alone = e
goes_on r.Or x xs e alone = e

chain_is : (rank : Rank) (x : BinaryOp × Expression) (xs : List (BinaryOp × Expression))
    → all_bind (strength_of rank) (links_of (x ∷ xs)) ≡ true → (is_single rank ≡ true → length (x ∷ xs) ≤ 1)
    → is_chain (links_of (x ∷ xs)) ≡ true
chain_is rank x [] e alone = refl
chain_is rank x (y ∷ xs) e alone =
    let parts = and_parts (strength x.0 == strength_of rank) (all_bind (strength_of rank) (links_of (y ∷ xs))) e in
    let same : strength x.0 ≡ strength_of rank = eqb-true (strength x.0) (strength_of rank) parts.0 in
    subst (λ s. (nat_lt 3 s || nat_lt s 3) && all_bind s (links_of (y ∷ xs)) ≡ true) (sym same)
    (goes_on rank y xs parts.1 alone)

joined_small : (rank : Rank) (of n u v : ℕ) (first : Expression) (xs : List (BinaryOp × Expression))
    → IsSmallExpression of n u first → AreSmallLinks rank of n v xs
    → IsSmallExpression (of + 1) n (u + v) (joined first xs)
joined_small rank of n u v first [] one more =
    record { few = omega arith; formed = one.formed; nodes = one.nodes; chains = omega arith }
joined_small rank of n u v first (x ∷ xs) one more = record {
  few = omega arith;
  formed = and_from _ _ (and_from _ _ (chain_is rank x xs more.bind more.alone) one.formed) more.formed;
  nodes = omega arith;
  chains = omega arith;
}

-- ---- arguments

arguments_start : (n w : ℕ) → AreSmallArguments n w []
arguments_start n w =
    record { few = omega arith; formed = refl; nodes = omega arith; chains = omega arith; small = refl }

arguments_grow : Grows (IsSmallExpression 5) AreSmallArguments
arguments_grow n u v x xs levels one more = record {
  few = omega arith;
  formed = and_from _ _ one.formed more.formed;
  nodes = omega arith;
  chains = omega arith;
  small = and_from _ _ (expression_is_small n u x levels one) more.small;
}

-- ---- the forms of an expression

abbrev is_leaf : ExpressionForm → Bool
is_leaf (t.int n) = true
is_leaf (t.bool b) = true
is_leaf t.no_rev = true
is_leaf (t.inputs word_at) = true
is_leaf _ = false

leaf_small : (n w at : ℕ) (s : ExpressionForm) → is_leaf s ≡ true → 1 ≤ w → IsSmallExpression 0 n w (t.placed at s)
leaf_small n w at (t.int z) e some =
    record { few = omega arith; formed = refl; nodes = omega arith; chains = omega arith }
leaf_small n w at (t.bool b) e some =
    record { few = omega arith; formed = refl; nodes = omega arith; chains = omega arith }
leaf_small n w at t.no_rev e some =
    record { few = omega arith; formed = refl; nodes = omega arith; chains = omega arith }
leaf_small n w at (t.inputs word_at) e some =
    record { few = omega arith; formed = refl; nodes = omega arith; chains = omega arith }
leaf_small n w at _ e some = absurd cc

word_alone : (n w : ℕ) (x : PlacedName) → IsSmallName n w x → IsSmallExpression 0 n w (t.placed x.at (t.var x))
word_alone n w x h = record { few = omega arith; formed = h.formed; nodes = omega arith; chains = omega arith }

cell_small : (n m u v : ℕ) (x : PlacedName) (i : Expression) → IsSmallName (suc n) m x → IsSmallExpression 5 n v i
    → IsSmallExpression 0 (suc n) (m + (u + v)) (t.placed x.at (t.cell x i))
cell_small n m u v x i name index = record {
  few = omega arith;
  formed = and_from _ _ name.formed index.formed;
  nodes = omega arith;
  chains = omega arith;
}

apply_small : (n m u v : ℕ) (x : PlacedName) (args : List Expression) → IsSmallName (suc n) m x
    → AreSmallArguments n v args
    → IsSmallExpression 0 (suc n) (m + (u + v)) (t.placed x.at (t.apply x (expressions_of args)))
apply_small n m u v x args name more = record {
  few = omega arith;
  formed = and_from _ _ name.formed more.formed;
  nodes = more.nodes;
  chains = omega arith;
}

input_small : (n u v at : ℕ) (i : Expression) → 1 ≤ u → Within (IsSmallExpression 5) n v i
    → IsSmallExpression 0 n (u + v) (t.placed at (t.input at i))
input_small n u v at i some index =
    record { few = omega arith; formed = index.inside.formed; nodes = omega arith; chains = omega arith }

pick_small : (n u v at : ℕ) (x : Expression × Expression × Expression) → 1 ≤ u → Within AreSmallParts n v x
    → IsSmallExpression 0 n (u + v) (t.placed at (t.pick x.0 x.1 x.2))
pick_small n u v at x some parts =
    record { few = omega arith; formed = parts.inside.formed; nodes = omega arith; chains = omega arith }

moved_small : (n u v at : ℕ) (x : Expression) → IsSmallExpression 5 n v x
    → IsSmallExpression 0 (suc n) (u + v) (moved at x)
moved_small n u v at (t.placed was s) h =
    record { few = omega arith; formed = h.formed; nodes = omega arith; chains = omega arith }

unary_small : (n u v at : ℕ) (op : UnaryOp) (x : Expression) → 1 ≤ u → IsSmallExpression 0 n v x
    → IsSmallExpression 0 (suc n) (u + v) (t.placed at (t.unary op x))
unary_small n u v at op x some h =
    record { few = omega arith; formed = h.formed; nodes = omega arith; chains = omega arith }

-- the second and the third part of a `pick`
record AreTwo (n w : ℕ) (x : Expression × Expression) : Type 0 where
  few : expression_count x.0 + expression_count x.1 ≤ 3 * w
  first : expression_formed x.0 ≡ true
  second : expression_formed x.1 ≡ true
  nodes : max (nodes_around x.0) (nodes_around x.1) ≤ n
  chains : max (chains_around x.0) (chains_around x.1) ≤ 5 * n + 5

two_small : (n u v : ℕ) (x y : Expression) → IsSmallExpression 5 n u x → IsSmallExpression 5 n v y
    → AreTwo n (u + v) (x, y)
two_small n u v x y one other =
    record { few = omega arith; first = one.formed; second = other.formed; nodes = omega arith; chains = omega arith }

three_small : (n u v : ℕ) (x : Expression) (y : Expression × Expression) → IsSmallExpression 5 n u x → AreTwo n v y
    → AreSmallParts n (u + v) (x, y.0, y.1)
three_small n u v x y one two = record {
  few = omega arith;
  formed = and_from _ _ (and_from _ _ one.formed two.first) two.second;
  nodes = omega arith;
  chains = omega arith;
}

-- ---- the rules

module _ (bytes : List ℕ) (I : (i : Inner) → Lang alphabet (Value i)) where
  pub holds_place : {s : Fixed} → Holds bytes I IsSome (place s)
  holds_place = holds_token bytes I (λ n w x h e weight. let some : x.start < x.end = h.some in omega arith)

  pub holds_name : Holds bytes I IsSmallName (name bytes)
  unfolding name
  holds_name = holds_token bytes I (λ n w x h e weight. name_small bytes n w x h (proper_name bytes x h e) weight)

  holds_leaf : {s : Class} {val : Token → ExpressionForm} → ((x : Token) → is_leaf (val x) ≡ true)
      → Holds bytes I (IsSmallExpression 0) (token s (λ x. t.placed x.start (val x)))
  holds_leaf {val = val} leaf =
      holds_token bytes I
      (λ n w x h e weight. let some : x.start < x.end = h.some in leaf_small n w x.start (val x) (leaf x) (omega arith))

  holds_operator : (rank : Rank) {s : Fixed} {op : BinaryOp} → strength op ≡ strength_of rank
      → Holds bytes I (IsOperator rank) (operator s op)
  holds_operator rank e =
      holds_token bytes I
      (λ n w x h same weight. let some : x.start < x.end = h.some in record { some = omega arith; binds = e })

  holds_sign : (rank : Rank) → Holds bytes I (IsOperator rank) (rank_sign rank)
  unfolding rank_sign
  holds_sign r.Product =
      holds_either bytes I (holds_operator r.Product refl)
      (holds_either bytes I (holds_operator r.Product refl) (holds_operator r.Product refl))
  holds_sign r.Sum = holds_either bytes I (holds_operator r.Sum refl) (holds_operator r.Sum refl)
  holds_sign r.Compare =
      holds_either bytes I (holds_operator r.Compare refl) (holds_either bytes I (holds_operator r.Compare refl)
      (holds_either bytes I (holds_operator r.Compare refl) (holds_either bytes I (holds_operator r.Compare refl)
      (holds_either bytes I (holds_operator r.Compare refl) (holds_operator r.Compare refl)))))
  holds_sign r.And = holds_operator r.And refl
  holds_sign r.Or = holds_operator r.Or refl

  holds_link : (rank : Rank) (of : ℕ) {F : Rule Expression} → Holds bytes I (IsSmallExpression of) F
      → Holds bytes I (IsSmallLink rank of) (linked (rank_sign rank) F)
  holds_link rank of operand =
      holds_both bytes I (holds_sign rank) operand (λ n u v op x levels sign one. record {
        few = let some : 1 ≤ u = sign.some in omega arith;
        formed = one.formed;
        nodes = one.nodes;
        chains = one.chains;
        binds = sign.binds;
      })

  holds_links : (rank : Rank) (of : ℕ) {F : Rule Expression} → Holds bytes I (IsSmallExpression of) F
      → Holds bytes I (AreSmallLinks rank of) (links_by rank (rank_sign rank) F)
  holds_links rank of operand =
      holds_many bytes I (holds_link rank of operand) (links_start rank of) (links_grow rank of) (λ n w xs h. h)

  holds_ranked : (rank : Rank) (of : ℕ) {F : Rule Expression} → Holds bytes I (IsSmallExpression of) F
      → Holds bytes I (IsSmallExpression (of + 1)) (both joined F (links_by rank (rank_sign rank) F))
  holds_ranked rank of operand =
      holds_both bytes I operand (holds_links rank of operand)
      (λ n u v first xs levels one more. joined_small rank of n u v first xs one more)

  module _ (inside : Inside bytes Has I) where
    pub holds_index : Holds bytes I (Within (IsSmallExpression 5)) bracketed
    unfolding bracketed
    holds_index = holds_within bytes I {Has = Has} inside (class.fixed s.OpenBracket) Index

    holds_choice : Holds bytes I (Within AreSmallParts) choice
    unfolding choice
    holds_choice = holds_within bytes I {Has = Has} inside (class.fixed s.OpenParen) Parts

    holds_tail : Holds bytes I IsSmallTail (name_tail bytes)
    unfolding name_tail
    holds_tail =
        holds_either bytes I (holds_level bytes I {Has = Has} inside
        (λ n u v x i proper levels weight h. record { at_name = λ m w word. cell_small n m u v w i word h }))
        (holds_either bytes I (holds_level bytes I {Has = Has} inside
        (λ n u v x args proper levels weight h. record { at_name = λ m w word. apply_small n m u v w args word h }))
        (holds_nothing bytes I (λ n w. record {
          at_name = λ m x word.
              word_alone n (m + w) x (record { few = let few = word.few in omega arith; formed = word.formed });
        })))

    holds_primary : Holds bytes I (IsSmallExpression 0) (primary bytes)
    unfolding primary
    holds_primary =
        holds_either bytes I (holds_leaf (λ x. refl))
        (holds_either bytes I (holds_leaf (λ x. refl))
        (holds_either bytes I (holds_leaf (λ x. refl))
        (holds_either bytes I (holds_leaf (λ x. refl))
        (holds_either bytes I
        (holds_both bytes I holds_name holds_tail (λ n u v w f levels word tail. tail.at_name u w word))
        (holds_either bytes I
        (holds_both bytes I holds_place holds_index (λ n u v at i levels some h. input_small n u v at i some h))
        (holds_either bytes I (holds_leaf (λ x. refl))
        (holds_either bytes I
        (holds_both bytes I holds_place holds_choice (λ n u v at x levels some h. pick_small n u v at x some h))
        (holds_level bytes I {Has = Has} inside
        (λ n u v x e proper levels weight h. moved_small n u v x.start e h)))))))))

    holds_unary_sign : {s : Class} (op : UnaryOp)
        → Holds bytes I (IsSmallExpression 0) (level s Operand (λ x e. t.placed x.start (t.unary op e)))
    holds_unary_sign op =
        holds_level bytes I {Has = Has} inside
        (λ n u v x e proper levels weight h.
        let some : x.start < x.end = proper.some in unary_small n u v x.start op e (omega arith) h)

    pub holds_unary : Holds bytes I (IsSmallExpression 0) (unary bytes)
    unfolding unary
    holds_unary =
        holds_either bytes I (holds_unary_sign u.Neg) (holds_either bytes I (holds_unary_sign u.Not) holds_primary)

    holds_product : Holds bytes I (IsSmallExpression 1) (product bytes)
    unfolding product
    holds_product = holds_ranked r.Product 0 holds_unary

    holds_sum : Holds bytes I (IsSmallExpression 2) (sum bytes)
    unfolding sum
    holds_sum = holds_ranked r.Sum 1 holds_product

    holds_comparison : Holds bytes I (IsSmallExpression 3) (comparison bytes)
    unfolding comparison
    holds_comparison = holds_ranked r.Compare 2 holds_sum

    holds_conjunction : Holds bytes I (IsSmallExpression 4) (conjunction bytes)
    unfolding conjunction
    holds_conjunction = holds_ranked r.And 3 holds_comparison

    pub holds_expr : Holds bytes I (IsSmallExpression 5) (expr bytes)
    unfolding expr
    holds_expr = holds_ranked r.Or 4 holds_conjunction

    pub holds_parens : Holds bytes I (IsSmallExpression 5) (parens bytes)
    unfolding parens
    holds_parens = holds_before bytes I holds_expr

    pub holds_inner_index : Holds bytes I (IsSmallExpression 5) (index bytes)
    unfolding index
    holds_inner_index = holds_before bytes I holds_expr

    pub holds_arguments : Holds bytes I AreSmallArguments (arguments bytes)
    unfolding arguments
    holds_arguments = holds_before bytes I (holds_listing bytes I holds_expr arguments_start arguments_grow)

    pub holds_parts : Holds bytes I AreSmallParts (parts bytes)
    unfolding parts
    holds_parts =
        holds_before bytes I (holds_both bytes I (holds_before bytes I holds_expr)
        (holds_both bytes I (holds_before bytes I holds_expr) holds_expr
        (λ n u v x y levels one other. two_small n u v x y one other))
        (λ n u v x y levels one two. three_small n u v x y one two))

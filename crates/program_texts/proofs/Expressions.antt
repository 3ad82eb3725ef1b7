-- Expressions that are parsed: each number is that of a token, which fits 64 bits.
use Rattle.std.proofs.Common.{ℕ, List, [], ◌∷◌, refl}
use Rattle.std.specs.Prelude.{IsTrue}
use Rattle.rev_num.specs.Arith.{fits_i64}
use Rattle.rev_syntax.specs.Trees as t
use Rattle.rev_syntax.specs.Trees.{PlacedName, Expression, Statements}
use Rattle.rev_syntax.specs.View.{expressions_of, links_of}
use Rattle.rev_syntax.specs.declared.tree.BinaryOp.{BinaryOp}
use Rattle.rev_syntax.specs.declared.tree.UnaryOp.{UnaryOp}
use Rattle.rev_syntax.specs.declared.tree.UnaryOp.TheVariants as u
use Rattle.rev_syntax.specs.declared.token.Fixed.TheVariants as s
use Rattle.rev_syntax.specs.declared.token.Token.{Token}
use Rattle.rev_syntax.specs.declared.token.TokenKind.{TokenKind}
use Rattle.rev_syntax.specs.declared.token.TokenKind.TheVariants as k
use Rattle.rev_expressions.specs.Form.{token, level, both, Lang}
use Rattle.rev_expressions.specs.declared.expression.Rank.{Rank}
use Rattle.rev_expressions.specs.declared.expression.Rank.TheVariants as r
use Rattle.rev_expressions.specs.Classes.{Class}
use Rattle.rev_expressions.specs.Classes as class
use Rattle.rev_expressions.specs.Source.{int_of}
use Rattle.rev_expressions.specs.Grammar.{alphabet, Rule, Inner, Value, Operand, Parens, Index, Arguments, Parts, Body, Params, Names, Cells, rank_sign, linked, links_by, joined, moved, bracketed, choice, name_tail, primary, unary, product, sum, comparison, conjunction, expr, parens, index, arguments, parts}
use Rattle.rev_parse.proofs.TextTokens.{IsWithinRange}
use Rattle.rev_parse.proofs.Holds.{Property, Any, Holds, Inside, holds_nothing, holds_token, holds_both, holds_either, holds_many, holds_as, holds_any, holds_before, holds_listing, holds_within, holds_level}
use Rattle.program_texts.specs.Written.{ExpressionWritten, ExpressionsWritten, LinksWritten, StatementsWritten}

-- ---- the properties

abbrev pub IsWrittenExpression : Property Expression
IsWrittenExpression n w x = ExpressionWritten x

abbrev pub AreWrittenArguments : Property (List Expression)
AreWrittenArguments n w xs = ExpressionsWritten (expressions_of xs)

abbrev AreWrittenParts : Property (Expression × Expression × Expression)
AreWrittenParts n w x = ExpressionWritten x.0 × ExpressionWritten x.1 × ExpressionWritten x.2

abbrev pub IsWrittenBlock : Property Statements
IsWrittenBlock n w x = StatementsWritten x

abbrev IsWrittenLink : Property (BinaryOp × Expression)
IsWrittenLink n w x = ExpressionWritten x.1

abbrev AreWrittenLinks : Property (List (BinaryOp × Expression))
AreWrittenLinks n w xs = LinksWritten (links_of xs)

-- what follows a name in an expression, at each name
record IsWrittenTail (n w : ℕ) (f : PlacedName → Expression) : Type 0 where
  at_name : (x : PlacedName) → ExpressionWritten (f x)

-- what stands in a level
abbrev pub Has : (i : Inner) → Property (Value i)
Has Operand = IsWrittenExpression
Has Parens = IsWrittenExpression
Has Index = IsWrittenExpression
Has Arguments = AreWrittenArguments
Has Parts = AreWrittenParts
Has Body = IsWrittenBlock
Has Params = Any
Has Names = Any
Has Cells = Any

-- ---- what the parts make

number_fits : (kind : TokenKind) → IsWithinRange kind → IsTrue (fits_i64 (int_of kind))
number_fits (k.Int n) h = h
number_fits _ h = refl

joined_written : (first : Expression) (xs : List (BinaryOp × Expression)) → ExpressionWritten first
    → LinksWritten (links_of xs) → ExpressionWritten (joined first xs)
joined_written first [] h more = h
joined_written first (x ∷ xs) h more = (h, more)

moved_written : (at : ℕ) (x : Expression) → ExpressionWritten x → ExpressionWritten (moved at x)
moved_written at (t.placed was form) h = h

-- ---- the rules

module _ (bytes : List ℕ) (I : (i : Inner) → Lang alphabet (Value i)) where
  holds_link : (rank : Rank) {F : Rule Expression} → Holds bytes I IsWrittenExpression F
      → Holds bytes I IsWrittenLink (linked (rank_sign rank) F)
  holds_link rank operand = holds_both bytes I {P = Any} (holds_any bytes I) operand (λ n u v op x levels any h. h)

  holds_links : (rank : Rank) {F : Rule Expression} → Holds bytes I IsWrittenExpression F
      → Holds bytes I AreWrittenLinks (links_by rank (rank_sign rank) F)
  holds_links rank operand =
      holds_many bytes I {P = IsWrittenLink} {L = AreWrittenLinks} (holds_link rank operand) (λ n w. tt)
      (λ n u v x xs levels one more ends. (one, more)) (λ n w xs h. h)

  holds_ranked : (rank : Rank) {F : Rule Expression} → Holds bytes I IsWrittenExpression F
      → Holds bytes I IsWrittenExpression (both joined F (links_by rank (rank_sign rank) F))
  holds_ranked rank operand =
      holds_both bytes I {P = IsWrittenExpression} {Q = AreWrittenLinks} operand (holds_links rank operand)
      (λ n u v first xs levels one more. joined_written first xs one more)

  module _ (inside : Inside bytes Has I) where
    pub holds_index : Holds bytes I IsWrittenExpression bracketed
    unfolding bracketed
    holds_index =
        holds_as bytes I (holds_within bytes I {Has = Has} inside (class.fixed s.OpenBracket) Index)
        (λ n w x levels h. h.inside)

    holds_choice : Holds bytes I AreWrittenParts choice
    unfolding choice
    holds_choice =
        holds_as bytes I (holds_within bytes I {Has = Has} inside (class.fixed s.OpenParen) Parts)
        (λ n w x levels h. h.inside)

    holds_tail : Holds bytes I IsWrittenTail (name_tail bytes)
    unfolding name_tail
    holds_tail =
        holds_either bytes I
        (holds_level bytes I {Has = Has} inside (λ n u v x i proper levels weight h. record { at_name = λ w. h }))
        (holds_either bytes I
        (holds_level bytes I {Has = Has} inside (λ n u v x args proper levels weight h. record { at_name = λ w. h }))
        (holds_nothing bytes I (λ n w. record { at_name = λ x. tt })))

    holds_leaf : {c : Class} {val : Token → t.ExpressionForm}
        → ((x : Token) → IsWithinRange x.kind → ExpressionWritten (t.placed x.start (val x)))
        → Holds bytes I IsWrittenExpression (token c (λ x. t.placed x.start (val x)))
    holds_leaf leaf = holds_token bytes I {Q = IsWrittenExpression} (λ n w x h e weight. leaf x h.fits)

    holds_primary : Holds bytes I IsWrittenExpression (primary bytes)
    unfolding primary
    holds_primary =
        holds_either bytes I (holds_leaf (λ x h. number_fits x.kind h))
        (holds_either bytes I (holds_leaf (λ x h. tt))
        (holds_either bytes I (holds_leaf (λ x h. tt))
        (holds_either bytes I (holds_leaf (λ x h. tt))
        (holds_either bytes I (holds_both bytes I {P = Any} {Q = IsWrittenTail} (holds_any bytes I) holds_tail
        (λ n u v w f levels any tail. tail.at_name w))
        (holds_either bytes I (holds_both bytes I {P = Any} {Q = IsWrittenExpression} (holds_any bytes I) holds_index
        (λ n u v at i levels any h. h))
        (holds_either bytes I (holds_leaf (λ x h. tt))
        (holds_either bytes I (holds_both bytes I {P = Any} {Q = AreWrittenParts} (holds_any bytes I) holds_choice
        (λ n u v at x levels any h. h))
        (holds_level bytes I {Has = Has} inside {Q = IsWrittenExpression}
        (λ n u v x e proper levels weight h. moved_written x.start e h)))))))))

    holds_unary_sign : {c : Class} (op : UnaryOp)
        → Holds bytes I IsWrittenExpression (level c Operand (λ x e. t.placed x.start (t.unary op e)))
    holds_unary_sign op =
        holds_level bytes I {Has = Has} inside {Q = IsWrittenExpression} (λ n u v x e proper levels weight h. h)

    pub holds_unary : Holds bytes I IsWrittenExpression (unary bytes)
    unfolding unary
    holds_unary =
        holds_either bytes I (holds_unary_sign u.Neg) (holds_either bytes I (holds_unary_sign u.Not) holds_primary)

    holds_product : Holds bytes I IsWrittenExpression (product bytes)
    unfolding product
    holds_product = holds_ranked r.Product holds_unary

    holds_sum : Holds bytes I IsWrittenExpression (sum bytes)
    unfolding sum
    holds_sum = holds_ranked r.Sum holds_product

    holds_comparison : Holds bytes I IsWrittenExpression (comparison bytes)
    unfolding comparison
    holds_comparison = holds_ranked r.Compare holds_sum

    holds_conjunction : Holds bytes I IsWrittenExpression (conjunction bytes)
    unfolding conjunction
    holds_conjunction = holds_ranked r.And holds_comparison

    pub holds_expr : Holds bytes I IsWrittenExpression (expr bytes)
    unfolding expr
    holds_expr = holds_ranked r.Or holds_conjunction

    pub holds_parens : Holds bytes I IsWrittenExpression (parens bytes)
    unfolding parens
    holds_parens = holds_before bytes I holds_expr

    pub holds_inner_index : Holds bytes I IsWrittenExpression (index bytes)
    unfolding index
    holds_inner_index = holds_before bytes I holds_expr

    pub holds_arguments : Holds bytes I AreWrittenArguments (arguments bytes)
    unfolding arguments
    holds_arguments =
        holds_before bytes I (holds_listing bytes I {P = IsWrittenExpression} {L = AreWrittenArguments} holds_expr
        (λ n w. tt) (λ n u v x xs levels one more. (one, more)))

    pub holds_parts : Holds bytes I AreWrittenParts (parts bytes)
    unfolding parts
    holds_parts =
        holds_before bytes I (holds_both bytes
        I {P = IsWrittenExpression} {Q = λ n w x. ExpressionWritten x.0 × ExpressionWritten x.1}
        (holds_before bytes I holds_expr)
        (holds_both bytes I {P = IsWrittenExpression} {Q = IsWrittenExpression} (holds_before bytes I holds_expr)
        holds_expr (λ n u v x y levels one other. (one, other)))
        (λ n u v x y levels one two. (one, two.0, two.1)))

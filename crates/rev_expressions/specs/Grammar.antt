-- The grammar of expressions. Each rule is a form; what a form derives is said in `Form.antt`.
use Rattle.std.specs.Prelude.{ℕ, Bool, true, false, List, [], ◌∷◌}
use Rattle.rev_syntax.specs.Trees as t
use Rattle.rev_syntax.specs.Trees.{PlacedName, Expression, Parameter, ArraySize, Statements}
use Rattle.rev_syntax.specs.View.{expressions_of, links_of}
use Rattle.rev_syntax.specs.declared.tree.UnaryOp.TheVariants as u
use Rattle.rev_syntax.specs.declared.tree.BinaryOp.{BinaryOp}
use Rattle.rev_syntax.specs.declared.tree.BinaryOp.TheVariants as b
use Rattle.rev_syntax.specs.declared.token.Token.{Token}
use Rattle.rev_expressions.specs.Form.{Alphabet, Form, nothing, token, level, both, either, many}
use Rattle.rev_expressions.specs.declared.expression.Rank.{Rank}
use Rattle.rev_expressions.specs.declared.expression.Rank.TheVariants as r
use Rattle.rev_syntax.specs.declared.token.Fixed.TheVariants as s
use Rattle.rev_syntax.specs.declared.token.Fixed.{Fixed}
use Rattle.rev_expressions.specs.Classes.{class_of, is_same}
use Rattle.rev_expressions.specs.Source.{word_of, int_of}
use Rattle.rev_expressions.specs.Classes as class

-- what stands behind a token that opens a level
pub data Inner : Type 0 where
  -- the operand of a unary operator
  Operand : Inner
  -- up to the closing sign: an expression in parentheses, an index, arguments, the three parts of a `pick`
  Parens : Inner
  Index : Inner
  Arguments : Inner
  Parts : Inner
  -- the statements of a block
  Body : Inner
  -- the parameters of a fun or procedure, the three names of a merge, the size of an array
  Params : Inner
  Names : Inner
  Cells : Inner

abbrev pub Value : Inner → Type 0
Value Operand = Expression
Value Parens = Expression
Value Index = Expression
Value Arguments = List Expression
Value Parts = Expression × Expression × Expression
Value Body = Statements
Value Params = List Parameter
Value Names = PlacedName × PlacedName × PlacedName
Value Cells = ArraySize

abbrev pub alphabet : Alphabet
alphabet = record {
  Token = Token;
  Kind = class.Class;
  kind = λ t. class_of t.kind;
  is = is_same;
  Inner = Inner;
  Value = Value;
}

abbrev pub Rule : Type 0 → Type 1
Rule A = Form alphabet A

-- ---- small words

abbrev pub sign : Fixed → Rule (Unit {0})
sign s = token (class.fixed s) (λ t. tt)

-- the place of a token
abbrev pub place : Fixed → Rule ℕ
place s = token (class.fixed s) (λ t. t.start)

-- a rule behind a token
abbrev pub behind : {A : Type 0} → Fixed → Rule A → Rule A
behind s F = both (λ x a. a) (sign s) F

-- a rule before a token
abbrev pub before : {A : Type 0} → Rule A → Fixed → Rule A
before F s = both (λ a x. a) F (sign s)

abbrev pub never : {A : Type 0} → A → Bool
never a = false

-- a rule as often as it comes
abbrev pub all : {A : Type 0} → Rule A → Rule (List A)
all F = many (λ xs. xs) never F

-- one or more, with commas between them
abbrev pub listed : {A : Type 0} → Rule A → Rule (List A)
listed F = both (λ x xs. x ∷ xs) F (all (behind s.Comma F))

-- none or more, with commas between them
abbrev pub listing : {A : Type 0} → Rule A → Rule (List A)
listing F = either (listed F) (nothing [])

-- ---- expressions

-- the same expression, from another token on
abbrev pub moved : ℕ → Expression → Expression
moved to (t.placed at s) = t.placed to s

-- an expression alone, or a chain that begins with it
abbrev pub joined : Expression → List (BinaryOp × Expression) → Expression
joined first [] = first
joined first (l ∷ ls) = t.placed (t.expression_place first) (t.chain first (links_of (l ∷ ls)))

abbrev pub operator : Fixed → BinaryOp → Rule BinaryOp
operator s op = token (class.fixed s) (λ t. op)

-- an operator and the operand behind it
abbrev pub linked : Rule BinaryOp → Rule Expression → Rule (BinaryOp × Expression)
linked op F = both (λ o e. (o, e)) op F

-- the operators of a rank
unfoldable pub rank_sign : Rank → Rule BinaryOp
-- "*" | "/" | "%"
rank_sign r.Product = either (operator s.Star b.Mul) (either (operator s.Slash b.Div) (operator s.Percent b.Rem))
-- "+" | "-"
rank_sign r.Sum = either (operator s.Plus b.Add) (operator s.Minus b.Sub)
-- "==" | "!=" | "<" | "<=" | ">" | ">="
rank_sign r.Compare =
    either (operator s.Equal b.Eq) (either (operator s.NotEqual b.Ne)
    (either (operator s.Less b.Lt) (either (operator s.LessEqual b.Le)
    (either (operator s.Greater b.Gt) (operator s.GreaterEqual b.Ge)))))
-- "&&"
rank_sign r.And = operator s.And b.And
-- two vertical bars
rank_sign r.Or = operator s.Or b.Or

-- whether a chain of the rank ends with its first link
abbrev pub is_single : Rank → Bool
is_single r.Compare = true
is_single _ = false

-- the operators of a chain and the operands behind them: at most one in a comparison
abbrev pub links_by : Rank → Rule BinaryOp → Rule Expression → Rule (List (BinaryOp × Expression))
links_by rank op F = many (λ ls. ls) (λ l. is_single rank) (linked op F)

-- an index, and the parts of a `pick`, with their opening signs
unfoldable pub bracketed : Rule Expression
bracketed = level (class.fixed s.OpenBracket) Index (λ x i. i)

unfoldable pub choice : Rule (Expression × Expression × Expression)
choice = level (class.fixed s.OpenParen) Parts (λ x p. p)

module _ (bytes : List ℕ) where
  unfoldable pub name : Rule PlacedName
  name = token class.name (λ t. word_of bytes t)

  -- what follows a name in an expression: an index, arguments or nothing
  unfoldable pub name_tail : Rule (PlacedName → Expression)
  name_tail =
      either (level (class.fixed s.OpenBracket) Index (λ x i w. t.placed w.at (t.cell w i)))
      (either (level (class.fixed s.OpenParen) Arguments (λ x args w. t.placed w.at (t.apply w (expressions_of args))))
      (nothing (λ w. t.placed w.at (t.var w))))

  -- INT | "true" | "false" | "none" | NAME | NAME "[" expr "]" | NAME "(" [ args ] ")"
  -- | "input" "[" expr "]" | "inputs" | "pick" "(" expr "," expr "," expr ")" | "(" expr ")"
  unfoldable pub primary : Rule Expression
  primary =
      either (token class.number (λ x. t.placed x.start (t.int (int_of x.kind))))
      (either (token (class.fixed s.True) (λ x. t.placed x.start (t.bool true)))
      (either (token (class.fixed s.False) (λ x. t.placed x.start (t.bool false)))
      (either (token (class.fixed s.NoRev) (λ x. t.placed x.start t.no_rev))
      (either (both (λ w rest. rest w) name name_tail)
      (either (both (λ at i. t.placed at (t.input at i)) (place s.Input) bracketed)
      (either (token (class.fixed s.Inputs) (λ x. t.placed x.start (t.inputs x.start)))
      (either (both {B = Expression × Expression × Expression} (λ at p. t.placed at (t.pick p.0 p.1 p.2)) (place s.Pick)
      choice)
      (level (class.fixed s.OpenParen) Parens (λ x e. moved x.start e)))))))))

  -- ( "-" | "!" ) unary | primary
  unfoldable pub unary : Rule Expression
  unary =
      either (level (class.fixed s.Minus) Operand (λ x e. t.placed x.start (t.unary u.Neg e)))
      (either (level (class.fixed s.Bang) Operand (λ x e. t.placed x.start (t.unary u.Not e)))
      primary)

  -- the chains of each rank, from the tightest on; those of one rank are the operands of the next:
  --   product = unary { ( "*" | "/" | "%" ) unary }
  --   sum = product { ( "+" | "-" ) product }
  --   comparison = sum [ ( "==" | "!=" | "<" | "<=" | ">" | ">=" ) sum ]
  --   and = comparison { "&&" comparison }
  --   or = and { bars and }
  unfoldable pub product : Rule Expression
  product = both joined unary (links_by r.Product (rank_sign r.Product) unary)

  unfoldable pub sum : Rule Expression
  sum = both joined product (links_by r.Sum (rank_sign r.Sum) product)

  unfoldable pub comparison : Rule Expression
  comparison = both joined sum (links_by r.Compare (rank_sign r.Compare) sum)

  unfoldable pub conjunction : Rule Expression
  conjunction = both joined comparison (links_by r.And (rank_sign r.And) comparison)

  unfoldable pub expr : Rule Expression
  expr = both joined conjunction (links_by r.Or (rank_sign r.Or) conjunction)

  -- the chains of a rank, and their operands
  abbrev pub ranked : Rank → Rule Expression
  ranked r.Product = product
  ranked r.Sum = sum
  ranked r.Compare = comparison
  ranked r.And = conjunction
  ranked r.Or = expr

  abbrev pub operand : Rank → Rule Expression
  operand r.Product = unary
  operand r.Sum = product
  operand r.Compare = sum
  operand r.And = comparison
  operand r.Or = conjunction

  -- what stands behind the opening sign, up to the closing one
  unfoldable pub parens : Rule Expression
  parens = before expr s.CloseParen

  unfoldable pub index : Rule Expression
  index = before expr s.CloseBracket

  unfoldable pub arguments : Rule (List Expression)
  arguments = before (listing expr) s.CloseParen

  unfoldable pub parts : Rule (Expression × Expression × Expression)
  parts =
      before (both {B = Expression × Expression} (λ c ab. (c, ab.0, ab.1)) (before expr s.Comma)
      (both (λ a b. (a, b)) (before expr s.Comma) expr)) s.CloseParen

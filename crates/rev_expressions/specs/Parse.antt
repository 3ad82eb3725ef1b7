-- The parser of the grammar, as functions over tokens.
use Rattle.std.specs.Prelude.{◌≡◌, ◌||◌, ℕ, Bool, true, false, List, [], Option, Some, None}
use Rattle.rev_syntax.specs.declared.token.Token.{Token}
use Rattle.rev_syntax.specs.declared.tree.BinaryOp.{BinaryOp}
use Rattle.rev_syntax.specs.Trees.{PlacedName, Expression, placed, cell, apply, pick}
use Rattle.rev_syntax.specs.View.{expressions_of}
use Rattle.rev_expressions.specs.Outcome.{Outcome, Parser, Read, and_then, after, next}
use Rattle.rev_expressions.specs.Reader.{begins, below, inside_of, is_next, parser, read, taken}
use Rattle.rev_expressions.specs.declared.expression.Rank.{Rank}
use Rattle.rev_expressions.specs.declared.expression.Rank.TheVariants as r
use Rattle.rev_expressions.specs.Grammar.{alphabet, Rule, Inner, Value, rank_sign, operand, links_by, joined, expr}
use Rattle.rev_syntax.specs.declared.token.Fixed.{Fixed}
use Rattle.rev_expressions.specs.Classes as class
use Rattle.rev_expressions.specs.Declarations.{inner}

-- this word or sign
abbrev pub expected : Fixed → Parser Token (Unit {0})
expected sign ts = taken alphabet (class.fixed sign) (λ t. tt) (next ts) ts

-- whether this word or sign comes, and whether a name does
abbrev pub sign_comes : Fixed → List Token → Bool
sign_comes sign ts = is_next alphabet (class.fixed sign) ts

abbrev pub name_comes : List Token → Bool
name_comes ts = is_next alphabet class.name ts

-- what a rule reads, where so many levels may be opened
abbrev pub parse : List ℕ → ℕ → {A : Type 0} → Rule A → List Token → Outcome Token A
parse bytes n F ts = parser alphabet (inner bytes) n F ts

-- what the next token, which opens a level, begins
abbrev pub inside : List ℕ → ℕ → {A : Type 0} → (i : Inner) → (Value i → A) → List Token → Outcome Token A
inside bytes n i val ts = inside_of alphabet (below alphabet (inner bytes) n) i val ts

-- an operator of the rank, of which no part stands further in
abbrev pub sign_at : Rank → List Token → Outcome Token BinaryOp
sign_at rank ts = read alphabet None (rank_sign rank) ts

-- whether an operator of the rank comes, and which
abbrev pub IsSign : Rank → List Token → Option BinaryOp → Type 0
IsSign rank ts None = begins alphabet (rank_sign rank) ts ≡ false
IsSign rank ts (Some op) = (begins alphabet (rank_sign rank) ts ≡ true) × (sign_at rank ts ≡ Read op (after ts))

-- whether an expression comes, which no bytes of the text decide
abbrev pub expr_begins : List Token → Bool
expr_begins ts = begins alphabet (expr []) ts

-- the links of a chain of this rank
abbrev pub links : List ℕ → Rank → Rule (List (BinaryOp × Expression))
links bytes rank = links_by rank (rank_sign rank) (operand bytes rank)

-- whether an operator of this rank or of a tighter one comes
abbrev pub operator_begins : Rank → List Token → Bool
operator_begins r.Product ts = begins alphabet (rank_sign r.Product) ts
operator_begins r.Sum ts = begins alphabet (rank_sign r.Product) ts || begins alphabet (rank_sign r.Sum) ts
operator_begins r.Compare ts =
    begins alphabet (rank_sign r.Product) ts || begins alphabet (rank_sign r.Sum) ts || begins alphabet
    (rank_sign r.Compare) ts
operator_begins r.And ts =
    begins alphabet (rank_sign r.Product) ts || begins alphabet (rank_sign r.Sum) ts || begins alphabet
    (rank_sign r.Compare) ts
    || begins alphabet (rank_sign r.And) ts
operator_begins r.Or ts =
    begins alphabet (rank_sign r.Product) ts || begins alphabet (rank_sign r.Sum) ts || begins alphabet
    (rank_sign r.Compare) ts
    || begins alphabet (rank_sign r.And) ts || begins alphabet (rank_sign r.Or) ts

-- a chain of this rank, behind its first operand
abbrev pub chain_behind : List ℕ → ℕ → Rank → Expression → Parser Token Expression
chain_behind bytes n rank first ts =
    and_then (parse bytes n (links bytes rank) ts) (λ ls rest. Read (joined first ls) rest)

-- the chains up to one of this rank, each of which is the first operand of the next,
-- behind the first operand of them all
abbrev pub product_behind : List ℕ → ℕ → Expression → Parser Token Expression
product_behind bytes n first ts = chain_behind bytes n r.Product first ts

abbrev pub sum_behind : List ℕ → ℕ → Expression → Parser Token Expression
sum_behind bytes n first ts = and_then (product_behind bytes n first ts) (λ e rest. chain_behind bytes n r.Sum e rest)

abbrev pub comparison_behind : List ℕ → ℕ → Expression → Parser Token Expression
comparison_behind bytes n first ts =
    and_then (sum_behind bytes n first ts) (λ e rest. chain_behind bytes n r.Compare e rest)

abbrev pub conjunction_behind : List ℕ → ℕ → Expression → Parser Token Expression
conjunction_behind bytes n first ts =
    and_then (comparison_behind bytes n first ts) (λ e rest. chain_behind bytes n r.And e rest)

abbrev pub expr_behind : List ℕ → ℕ → Expression → Parser Token Expression
expr_behind bytes n first ts =
    and_then (conjunction_behind bytes n first ts) (λ e rest. chain_behind bytes n r.Or e rest)

abbrev pub ranked_behind : List ℕ → ℕ → Rank → Expression → Parser Token Expression
ranked_behind bytes n r.Product first ts = product_behind bytes n first ts
ranked_behind bytes n r.Sum first ts = sum_behind bytes n first ts
ranked_behind bytes n r.Compare first ts = comparison_behind bytes n first ts
ranked_behind bytes n r.And first ts = conjunction_behind bytes n first ts
ranked_behind bytes n r.Or first ts = expr_behind bytes n first ts

-- what follows a name, at that name
abbrev pub of_name : PlacedName → Outcome Token (PlacedName → Expression) → Outcome Token Expression
of_name w o = and_then o (λ f rest. Read (f w) rest)

abbrev pub of_parts : ℕ → Outcome Token (Expression × Expression × Expression) → Outcome Token Expression
of_parts at o = and_then o (λ p rest. Read (placed at (pick p.0 p.1 p.2)) rest)

abbrev pub cell_of : PlacedName → Expression → Expression
cell_of w i = placed w.at (cell w i)

abbrev pub apply_of : PlacedName → List Expression → Expression
apply_of w args = placed w.at (apply w (expressions_of args))

-- What is shown of the values that are parsed: they have few parts, in their forms, and lie no deeper than the levels
-- allow.
--
-- Each property is of a value with n levels left for it, whose tokens have at most w bytes.
use Rattle.std.proofs.Common.{◌≡◌, ℕ, suc, ◌+◌, ◌*◌, ◌≤◌, true, ◌&&◌, List, Some}
use Rattle.std.specs.Prelude.{max}
use Rattle.std.specs.List.{list_all}
use Rattle.rev_syntax.specs.Trees.{PlacedName, Expression, Statements, Parameter, ArraySize}
use Rattle.rev_syntax.specs.View.{expressions_of}
use Rattle.rev_syntax.specs.Small.{name_count, expression_count, expressions_count, statements_count, parameters_count, nodes_around, nodes_around_args, chains_around, chains_around_args, name_formed, expression_formed, expressions_formed, expressions_small, statements_small, parameter_formed, size_formed}
use Rattle.rev_expressions.specs.Grammar.{Inner, Value, Operand, Parens, Index, Arguments, Parts, Body, Params, Names, Cells}
use Rattle.rev_parse.proofs.Holds.{Property}

pub record IsSmallName (n w : ℕ) (x : PlacedName) : Type 0 where
  pub few : 2 + name_count x ≤ 3 * w
  pub formed : name_formed x ≡ true

-- an expression of a rule of this rank: 0 for a unary expression, and one more for each kind of chain
pub record IsSmallExpression (rank n w : ℕ) (x : Expression) : Type 0 where
  pub few : 1 + expression_count x ≤ 3 * w
  pub formed : expression_formed x ≡ true
  pub nodes : nodes_around x ≤ n
  pub chains : chains_around x ≤ 5 * n + rank

-- arguments, which stand in a level more than the n that are left for them
pub record AreSmallArguments (n w : ℕ) (xs : List Expression) : Type 0 where
  pub few : expressions_count (expressions_of xs) ≤ 3 * w
  pub formed : expressions_formed (expressions_of xs) ≡ true
  pub nodes : nodes_around_args (expressions_of xs) ≤ suc n
  pub chains : chains_around_args (expressions_of xs) ≤ 5 * n + 5
  pub small : expressions_small (expressions_of xs) ≡ true

pub record AreSmallParts (n w : ℕ) (x : Expression × Expression × Expression) : Type 0 where
  pub few : expression_count x.0 + expression_count x.1 + expression_count x.2 ≤ 3 * w
  pub formed : expression_formed x.0 && expression_formed x.1 && expression_formed x.2 ≡ true
  pub nodes : max (nodes_around x.0) (max (nodes_around x.1) (nodes_around x.2)) ≤ n
  pub chains : max (chains_around x.0) (max (chains_around x.1) (chains_around x.2)) ≤ 5 * n + 5

pub record IsSmallBlock (n w : ℕ) (x : Statements) : Type 0 where
  pub few : statements_count x ≤ 3 * w
  pub small : statements_small x ≡ true

pub record AreSmallParameters (n w : ℕ) (xs : List Parameter) : Type 0 where
  pub few : parameters_count xs ≤ 3 * w
  pub formed : list_all parameter_formed xs ≡ true

pub record AreSmallNames (n w : ℕ) (x : PlacedName × PlacedName × PlacedName) : Type 0 where
  pub few : name_count x.0 + name_count x.1 + name_count x.2 ≤ 3 * w
  pub first : name_formed x.0 ≡ true
  pub second : name_formed x.1 ≡ true
  pub third : name_formed x.2 ≡ true

abbrev pub IsSmallArraySize : Property ArraySize
IsSmallArraySize n w x = size_formed (Some x) ≡ true

-- of at least one byte
abbrev pub IsSome : {A : Type 0} → Property A
IsSome n w x = 1 ≤ w

-- what stands in a level
abbrev pub Has : (i : Inner) → Property (Value i)
Has Operand = IsSmallExpression 0
Has Parens = IsSmallExpression 5
Has Index = IsSmallExpression 5
Has Arguments = AreSmallArguments
Has Parts = AreSmallParts
Has Body = IsSmallBlock
Has Params = AreSmallParameters
Has Names = AreSmallNames
Has Cells = IsSmallArraySize

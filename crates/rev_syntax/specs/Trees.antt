-- Programs as plain data, with no pointer and no room left over.
--
-- A place is the offset of a token's first byte. It is the first number of `placed`, `input`,
-- `inputs`, `called`, `forked`, `tried`, `text` and `statement`.
use Rattle.std.specs.Prelude.{ℕ, ℤ, Bool, List, Option}
use Rattle.rev_num.specs.declared.value.ValueKind.{ValueKind}
use Rattle.rev_num.specs.declared.value.Value.{Value}
use Rattle.rev_syntax.specs.declared.tree.UnaryOp.{UnaryOp}
use Rattle.rev_syntax.specs.declared.tree.BinaryOp.{BinaryOp}

pub record PlacedName : Type 0 where
  pub at : ℕ
  pub text : List ℕ

mutual
  -- an expression, with the place of its first token
  pub data Expression : Type 0 where
    placed : ℕ → ExpressionForm → Expression

  pub data ExpressionForm : Type 0 where
    int : ℤ → ExpressionForm
    bool : Bool → ExpressionForm
    no_rev : ExpressionForm
    var : PlacedName → ExpressionForm
    cell : PlacedName → Expression → ExpressionForm
    apply : PlacedName → Expressions → ExpressionForm
    input : ℕ → Expression → ExpressionForm
    inputs : ℕ → ExpressionForm
    pick : Expression → Expression → Expression → ExpressionForm
    unary : UnaryOp → Expression → ExpressionForm
    chain : Expression → Links → ExpressionForm

  pub data Expressions : Type 0 where
    no_expressions : Expressions
    expression : Expression → Expressions → Expressions

  pub data Links : Type 0 where
    no_links : Links
    link : BinaryOp → Expression → Links → Links

-- a right side, with the place of its word
pub data RightSide : Type 0 where
  plain : Expression → RightSide
  called : ℕ → PlacedName → Expressions → RightSide
  forked : ℕ → PlacedName → Expressions → RightSide
  tried : ℕ → Expression → RightSide

-- an item of a print
pub data PrintItem : Type 0 where
  text : ℕ → List ℕ → PrintItem
  shown : Expression → PrintItem

mutual
  -- a statement, with the place and the line of its first token
  pub data Statement : Type 0 where
    statement : ℕ → ℕ → StatementForm → Statement

  pub data StatementForm : Type 0 where
    bind : PlacedName → RightSide → StatementForm
    assign : PlacedName → RightSide → StatementForm
    assign_cell : PlacedName → Expression → Expression → StatementForm
    choose : Arms → StatementForm
    choose_or : Arms → Statements → StatementForm
    repeat : Expression → Statements → StatementForm
    call : PlacedName → Expressions → StatementForm
    return : Option Expression → StatementForm
    fork : PlacedName → Expressions → StatementForm
    join : Expression → StatementForm
    print : List PrintItem → StatementForm
    assert : Expression → StatementForm

  pub data Statements : Type 0 where
    no_statements : Statements
    statements : Statement → Statements → Statements

  pub data Arms : Type 0 where
    no_arms : Arms
    arm : Expression → Statements → Arms → Arms

-- a parameter, with the place of its kind
pub record Parameter : Type 0 where
  pub name : PlacedName
  pub kind_at : ℕ
  pub kind : ValueKind

-- the cells of an array
pub record ArraySize : Type 0 where
  pub at : ℕ
  pub cells : ℤ

-- a start value
pub record Constant : Type 0 where
  pub at : ℕ
  pub value : Value

-- a shared variable: by which merge, the place of its kind, its kind, its size and its start value
pub record SharedDeclaration : Type 0 where
  pub name : PlacedName
  pub by : Option PlacedName
  pub kind_at : ℕ
  pub holds : ValueKind
  pub size : Option ArraySize
  pub first : Option Constant

pub data Declaration : Type 0 where
  fun : PlacedName → List Parameter → ValueKind → Expression → Declaration
  merge : PlacedName → PlacedName → PlacedName → PlacedName → Expression → Declaration
  shared : SharedDeclaration → Declaration
  proc : PlacedName → List Parameter → Option ValueKind → Statements → Declaration

-- a whole text: its declarations, the place of the word `main`, and its block
pub record ProgramTree : Type 0 where
  pub declarations : List Declaration
  pub main_at : ℕ
  pub main : Statements

-- the place of an expression's first token
abbrev pub expression_place : Expression → ℕ
expression_place (placed at s) = at

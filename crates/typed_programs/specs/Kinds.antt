-- What names mean, and the kind of an expression, which its outermost form fixes.
use Rattle.std.specs.Prelude.{ℕ, Bool, true, false, if◌then◌else◌, unwrap_or, Option, Some, None, option_map, List}
use Rattle.rev_num.specs.declared.value.ValueKind.{ValueKind}
use Rattle.rev_num.specs.declared.value.ValueKind.TheVariants as k
pub use Rattle.rev_syntax.specs.Trees.{expression_place}
use Rattle.rev_syntax.specs.Trees.{Parameter, Expression, placed, ExpressionForm, Links, int, bool, no_rev, var, cell, apply, input, inputs, pick, unary, chain, no_links, link, RightSide, plain, called, forked, tried, PrintItem, text, shown}
use Rattle.rev_syntax.specs.declared.tree.UnaryOp.{UnaryOp}
use Rattle.rev_syntax.specs.declared.tree.UnaryOp.TheVariants as u
use Rattle.rev_syntax.specs.declared.tree.BinaryOp.{BinaryOp}
use Rattle.rev_syntax.specs.declared.tree.BinaryOp.TheVariants as b
use Rattle.name_tables.specs.Names.{Name}
use Rattle.name_tables.specs.Table.{Table, find}
use Rattle.typed_programs.specs.declared.names.Holder.{Holder}

-- a fun's or a procedure's parameters, and the kind of its result, if it has one
pub record Callee : Type 0 where
  pub params : List Parameter
  pub result : Option ValueKind

-- what a name means as a shared variable, after `call` or `rfork`, and in an application; and
-- whether this is inside a fun or a merge, where no shared variable and no input is known
pub record Names : Type 0 where
  pub shared : Name → Option Holder
  pub procs : Name → Option Callee
  pub funs : Name → Option Callee
  pub inside : Bool

-- the locals in scope, each with its kind. A local whose right side has no kind has none.
abbrev pub Locals : Type 0
Locals = Table (Option ValueKind)

-- the kind of a name: of a local, or else of a shared variable
abbrev pub name_kind : Option (Option ValueKind) → Option Holder → Option ValueKind
name_kind (Some found) h = found
name_kind None h = option_map (λ x. x.kind) h

abbrev pub result_of : Option Callee → Option ValueKind
result_of (Some f) = f.result
result_of None = None

abbrev pub operand_kind : UnaryOp → ValueKind
operand_kind u.Neg = k.Int
operand_kind u.Not = k.Bool

-- the kind that an operator wants of both its operands, if it wants one
abbrev pub operands : BinaryOp → Option ValueKind
operands b.Eq = None
operands b.Ne = None
operands b.And = Some k.Bool
operands b.Or = Some k.Bool
operands _ = Some k.Int

-- whether an operator compares its operands, which are to be of one kind
abbrev pub compares : BinaryOp → Bool
compares b.Eq = true
compares b.Ne = true
compares b.Lt = true
compares b.Le = true
compares b.Gt = true
compares b.Ge = true
compares _ = false

-- the kind of what an operator gives: a bool where it compares, and else what its operands are
abbrev pub given_kind : BinaryOp → ValueKind
given_kind op = if compares op then k.Bool else unwrap_or (operands op) k.Bool

abbrev pub links_kind : Links → Option ValueKind
links_kind no_links = None
links_kind (link op e rest) = Some (given_kind op)

abbrev mutual
  pub kind_in : Names → Locals → Expression → Option ValueKind
  kind_in c l (placed at s) = expression_form_kind c l s

  pub expression_form_kind : Names → Locals → ExpressionForm → Option ValueKind
  expression_form_kind c l (int n) = Some k.Int
  expression_form_kind c l (bool x) = Some k.Bool
  expression_form_kind c l no_rev = Some k.Rev
  expression_form_kind c l (var w) = name_kind (find w.text l) (c.shared w.text)
  expression_form_kind c l (cell w index) = name_kind (find w.text l) (c.shared w.text)
  expression_form_kind c l (apply w args) = result_of (c.funs w.text)
  expression_form_kind c l (input at index) = Some k.Int
  expression_form_kind c l (inputs at) = Some k.Int
  expression_form_kind c l (pick test x y) = kind_in c l x
  expression_form_kind c l (unary op part) = Some (operand_kind op)
  expression_form_kind c l (chain first rest) = links_kind rest

-- the kind of a right side
abbrev pub right_side_kind : Names → Locals → RightSide → Option ValueKind
right_side_kind c l (plain e) = kind_in c l e
right_side_kind c l (called at w args) = result_of (c.procs w.text)
right_side_kind c l (forked at w args) = Some k.Rev
right_side_kind c l (tried at handle) = Some k.Bool

abbrev pub right_side_place : RightSide → ℕ
right_side_place (plain e) = expression_place e
right_side_place (called at w args) = at
right_side_place (forked at w args) = at
right_side_place (tried at handle) = at

-- the first token of an item of a print
abbrev pub item_place : PrintItem → ℕ
item_place (text at bytes) = at
item_place (shown e) = expression_place e

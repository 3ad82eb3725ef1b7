-- The value of an expression, or the cause of the first part that faults, from left to right.
--
-- The definition is total. Where an operand has another kind than its operator takes, where a name
-- has no value, and where no fun has the name of an application, some fixed answer is given. No
-- program that keeps the rules on names and kinds meets one.
use Rattle.std.specs.Prelude.{ℕ, ℤ, pos, negsuc, ◌+ℤ◌, ◌-ℤ◌, ◌*ℤ◌, neg_ℤ, Bool, true, false, not, if◌then◌else◌, nat_lt, length, Option, Some, None, List, [], ◌∷◌, Result, Ok, Err, int_lt, int_le, slice_get}
use Rattle.std.specs.Option.{option_or}
use Rattle.rev_num.specs.declared.value.Value.{Value}
use Rattle.rev_num.specs.declared.value.Value.TheVariants as v
use Rattle.rev_num.specs.declared.value.NumFault.{NumFault}
use Rattle.rev_num.specs.declared.value.NumFault.TheVariants as fault
use Rattle.rev_num.specs.declared.outcome.Cause.{Cause}
use Rattle.rev_num.specs.declared.outcome.Cause.TheVariants as cause
use Rattle.rev_num.specs.Value.{same_number, same_truth}
use Rattle.rev_num.specs.Arith.{checked, quotient_of, remainder_of}
use Rattle.rev_syntax.specs.Trees.{Expression, placed, ExpressionForm, Expressions, Links, int, bool, no_rev, var, cell, apply, input, inputs, pick, unary, chain, no_expressions, expression, no_links, link}
use Rattle.rev_syntax.specs.declared.tree.UnaryOp.{UnaryOp}
use Rattle.rev_syntax.specs.declared.tree.UnaryOp.TheVariants as u
use Rattle.rev_syntax.specs.declared.tree.BinaryOp.{BinaryOp}
use Rattle.rev_syntax.specs.declared.tree.BinaryOp.TheVariants as b
use Rattle.name_tables.specs.Names.{Name, same}

abbrev pub Answer : Type 0
Answer = Result Value Cause

abbrev pub and_then : {A B : Type 0} → Result A Cause → (A → Result B Cause) → Result B Cause
and_then (Ok x) f = f x
and_then (Err c) f = Err c

-- ---- values

-- the number of an int; other values have none, and 0 stands for it
abbrev pub number_of : Value → ℤ
number_of (v.Int z) = z
number_of _ = pos 0

-- whether a bool is true; other values are none, and count as false
abbrev pub truth_of : Value → Bool
truth_of (v.Bool b) = b
truth_of _ = false

-- what is given where no rule says more
abbrev pub some_value : Answer
some_value = Ok (v.Int (pos 0))

-- the outcome of checked arithmetic
abbrev pub number : Result ℤ NumFault → Answer
number (Ok z) = Ok (v.Int z)
number (Err fault.Overflow) = Err cause.Overflow
number (Err fault.ZeroDivisor) = Err cause.ZeroDivisor

abbrev pub flag : Bool → Answer
flag b = Ok (v.Bool b)

-- ---- operators

abbrev pub both : Bool → Bool → Bool
both true b = b
both false b = false

-- two ints or two bools are compared; other values count as different
abbrev pub same_value : Value → Value → Bool
same_value (v.Int m) (v.Int n) = same_number m n
same_value (v.Bool a) (v.Bool b) = same_truth a b
same_value _ _ = false

-- an operator that takes both operands
abbrev pub operated : BinaryOp → Value → Value → Answer
operated b.Add x y = number (checked (number_of x +ℤ number_of y))
operated b.Sub x y = number (checked (number_of x -ℤ number_of y))
operated b.Mul x y = number (checked (number_of x *ℤ number_of y))
operated b.Div x y = number (quotient_of (number_of x) (number_of y))
operated b.Rem x y = number (remainder_of (number_of x) (number_of y))
operated b.Eq x y = flag (same_value x y)
operated b.Ne x y = flag (not (same_value x y))
operated b.Lt x y = flag (int_lt (number_of x) (number_of y))
operated b.Le x y = flag (int_le (number_of x) (number_of y))
operated b.Gt x y = flag (int_lt (number_of y) (number_of x))
operated b.Ge x y = flag (int_le (number_of y) (number_of x))
operated b.And x y = Ok y
operated b.Or x y = Ok y

-- the value that a left operand gives without the right one: `false && ..` and `true || ..`
abbrev pub short : BinaryOp → Value → Option Value
short b.And x = if truth_of x then None else Some (v.Bool false)
short b.Or x = if truth_of x then Some (v.Bool true) else None
short _ x = None

-- a link of a chain: the right operand is evaluated where the left one does not decide
abbrev pub linked : BinaryOp → Value → Answer → Option Value → Answer
linked op x right (Some z) = Ok z
linked op x right None = and_then right (operated op x)

abbrev pub reversed : UnaryOp → Value → Answer
reversed u.Neg x = number (checked (neg_ℤ (number_of x)))
reversed u.Not x = flag (not (truth_of x))

-- ---- what an expression reads

-- how a shared name reads: as the value of a scalar, or as an array's size and cells
pub data Shared : Type 0 where
  unknown : Shared
  scalar : Value → Shared
  array : ℕ → (ℕ → Value) → Shared

-- the values of locals and shared variables by name, and the input numbers
pub record Env : Type 0 where
  pub local : Name → Option Value
  pub shared : Name → Shared
  pub inputs : List ℤ

-- the cell at the index, which traps below 0 and from the size on
abbrev pub cell_at : ℕ → (ℕ → Value) → ℤ → Answer
cell_at size cells (pos i) = if nat_lt i size then Ok (cells i) else Err cause.Index
cell_at size cells (negsuc i) = Err cause.Index

abbrev pub read_cell : Shared → ℤ → Answer
read_cell (array size cells) i = cell_at size cells i
read_cell _ i = some_value

-- the input number at the position
abbrev pub taken : Option ℤ → Answer
taken (Some z) = Ok (v.Int z)
taken None = Err cause.Index

abbrev pub read_input : List ℤ → ℤ → Answer
read_input numbers (pos i) = taken (slice_get numbers i)
read_input numbers (negsuc i) = Err cause.Index

abbrev pub read_scalar : Shared → Answer
read_scalar (scalar x) = Ok x
read_scalar _ = some_value

-- a local comes before a shared variable
abbrev pub read : Option Value → Shared → Answer
read (Some x) found = Ok x
read None found = read_scalar found

-- ---- expressions

-- what a fun gives for arguments
abbrev pub Fun : Type 0
Fun = List Value → Answer

-- the funs that can be applied, by name
abbrev pub Funs : Type 0
Funs = Name → Option Fun

abbrev pub called : Option Fun → List Value → Answer
called (Some f) args = f args
called None args = some_value

abbrev mutual
  -- where these funs can be applied
  pub value_by : Funs → Env → Expression → Answer
  value_by fs e (placed at s) = expression_form_value fs e s

  pub expression_form_value : Funs → Env → ExpressionForm → Answer
  expression_form_value fs e (int n) = Ok (v.Int n)
  expression_form_value fs e (bool b) = flag b
  expression_form_value fs e no_rev = Ok (v.Rev None)
  expression_form_value fs e (var w) = read (e.local w.text) (e.shared w.text)
  expression_form_value fs e (cell w index) =
      and_then (value_by fs e index) (λ i. read_cell (e.shared w.text) (number_of i))
  expression_form_value fs e (apply w args) = and_then (values_by fs e args) (called (fs w.text))
  expression_form_value fs e (input at index) =
      and_then (value_by fs e index) (λ i. read_input e.inputs (number_of i))
  expression_form_value fs e (inputs at) = Ok (v.Int (pos (length e.inputs)))
  expression_form_value fs e (pick test a b) =
      and_then (value_by fs e test) (λ c. if truth_of c then value_by fs e a else value_by fs e b)
  expression_form_value fs e (unary op part) = and_then (value_by fs e part) (reversed op)
  expression_form_value fs e (chain first rest) =
      and_then (value_by fs e first) (λ x. chained fs e x rest)

  -- the values of arguments, from left to right
  pub values_by : Funs → Env → Expressions → Result (List Value) Cause
  values_by fs e no_expressions = Ok []
  values_by fs e (expression x xs) =
      and_then (value_by fs e x) (λ y. and_then (values_by fs e xs) (λ ys. Ok (y ∷ ys)))

  -- a chain is worked link by link
  pub chained : Funs → Env → Value → Links → Answer
  chained fs e x no_links = Ok x
  chained fs e x (link op part rest) =
      and_then (linked op x (value_by fs e part) (short op x)) (λ z. chained fs e z rest)

-- ---- funs

-- a fun's name, the names of its parameters, and its body
pub record FunDef : Type 0 where
  pub name : Name
  pub params : List Name
  pub body : Expression

-- these locals, and this value by this name, which hides an earlier one
abbrev pub bind : (Name → Option Value) → Name → Value → Name → Option Value
bind local p x name = if same name p then Some x else local name

-- these locals, and the first of these names with the first of these values, and so on
abbrev pub bind_all : (Name → Option Value) → List Name → List Value → Name → Option Value
bind_all local (p ∷ ps) (x ∷ xs) = bind_all (bind local p x) ps xs
bind_all local ps xs = local

abbrev pub nothing : Name → Option Value
nothing name = None

-- what the body of a fun or a merge reads: its parameters alone
abbrev pub closed : (Name → Option Value) → Env
closed local = record { local = local; shared = λ name. unknown; inputs = [] }

abbrev pub inside : List Name → List Value → Env
inside params args = closed (bind_all nothing params args)

-- a fun's value for arguments is that of its body, which may apply these funs
abbrev pub fun_value : Funs → FunDef → Fun
fun_value fs f args = value_by fs (inside f.params args) f.body

-- Funs, from the last declared to the first. The body of each may apply those that are declared
-- before it. Where two have one name, the first declared counts.
abbrev pub funs_of : List FunDef → Funs
funs_of [] name = None
funs_of (f ∷ before) name =
    option_or (funs_of before name)
    (if same name f.name then Some (fun_value (funs_of before) f) else None)

-- the value of an expression where all these funs, from the last declared to the first, may be
-- applied
abbrev pub value : List FunDef → Env → Expression → Answer
value funs e t = value_by (funs_of funs) e t

abbrev pub values : List FunDef → Env → Expressions → Result (List Value) Cause
values funs e ts = values_by (funs_of funs) e ts

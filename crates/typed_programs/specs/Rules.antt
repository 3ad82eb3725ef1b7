-- The rules that an expression breaks.
--
-- The rules are written once for every way to gather faults: by lists they are the set of all that
-- is broken, and by the first of two faults they are the first that is broken.
use Rattle.std.specs.Prelude.{ℕ, ◌+◌, Bool, if◌then◌else◌, nat_eq, Option, Some, None, List, [], slice_get, length}
use Rattle.rev_num.specs.declared.value.ValueKind.{ValueKind}
use Rattle.rev_num.specs.declared.value.ValueKind.TheVariants as k
use Rattle.rev_num.specs.Value.{same_kind}
use Rattle.rev_syntax.specs.Trees.{PlacedName, Parameter, Expression, placed, ExpressionForm, Expressions, Links, int, bool, no_rev, var, cell, apply, input, inputs, pick, unary, chain, no_expressions, expression, no_links, link, RightSide, plain, called, forked, tried}
use Rattle.rev_syntax.specs.declared.tree.BinaryOp.{BinaryOp}
use Rattle.rev_syntax.specs.declared.tree.BinaryOp.TheVariants as b
use Rattle.typed_programs.specs.FunRules.{count}
use Rattle.name_tables.specs.Table.{find}
use Rattle.typed_programs.specs.declared.names.Holder.{Holder}
use Rattle.typed_programs.specs.declared.fault.TypeFault.{TypeFault}
use Rattle.typed_programs.specs.declared.fault.TypeFault.TheVariants.{UnknownName, WrongType, WrongCount}
use Rattle.typed_programs.specs.Kinds.{Callee, Names, Locals, operand_kind, kind_in, expression_place}

module _ {M : Type 0} (none : M) (one : TypeFault → M) (both : M → M → M) where
  -- this kind is wanted; what has no kind violates no rule on kinds
  abbrev pub wants : ℕ → Option ValueKind → ValueKind → M
  wants at None wanted = none
  wants at (Some found) wanted = if same_kind found wanted then none else one (WrongType at)

  -- any kind but a handle's is wanted
  abbrev pub not_rev : ℕ → Option ValueKind → M
  not_rev at (Some k.Rev) = one (WrongType at)
  not_rev at _ = none

  -- the kind of something earlier is wanted, where that has a kind
  abbrev pub alike : ℕ → Option ValueKind → Option ValueKind → M
  alike at None found = none
  alike at (Some wanted) found = wants at found wanted

  -- a parameter's kind is wanted, where there is a parameter
  abbrev pub fits : ℕ → Option ValueKind → Option Parameter → M
  fits at found None = none
  fits at found (Some p) = wants at found p.kind

  -- a name that is used as a scalar
  abbrev pub scalar_use : PlacedName → Option (Option ValueKind) → Option Holder → M
  scalar_use w (Some found) h = none
  scalar_use w None (Some h) = if h.array then one (WrongType w.at) else none
  scalar_use w None None = one (UnknownName w.at)

  -- a name that is used as an array
  abbrev pub array_use : PlacedName → Option (Option ValueKind) → Option Holder → M
  array_use w (Some found) h = one (WrongType w.at)
  array_use w None (Some h) = if h.array then none else one (WrongType w.at)
  array_use w None None = one (UnknownName w.at)

  -- input is read
  abbrev pub input_use : Bool → ℕ → M
  input_use inside at = if inside then one (WrongType at) else none

  -- the left operand of an operator
  abbrev pub left_operand : BinaryOp → ℕ → Option ValueKind → M
  left_operand b.Add at found = wants at found k.Int
  left_operand b.Sub at found = wants at found k.Int
  left_operand b.Mul at found = wants at found k.Int
  left_operand b.Div at found = wants at found k.Int
  left_operand b.Rem at found = wants at found k.Int
  left_operand b.Eq at found = not_rev at found
  left_operand b.Ne at found = not_rev at found
  left_operand b.Lt at found = wants at found k.Int
  left_operand b.Le at found = wants at found k.Int
  left_operand b.Gt at found = wants at found k.Int
  left_operand b.Ge at found = wants at found k.Int
  left_operand b.And at found = wants at found k.Bool
  left_operand b.Or at found = wants at found k.Bool

  -- the right operand of an operator, whose left operand has this kind
  abbrev pub right_operand : BinaryOp → Option ValueKind → ℕ → Option ValueKind → M
  right_operand b.Add left at found = wants at found k.Int
  right_operand b.Sub left at found = wants at found k.Int
  right_operand b.Mul left at found = wants at found k.Int
  right_operand b.Div left at found = wants at found k.Int
  right_operand b.Rem left at found = wants at found k.Int
  right_operand b.Eq left at found = alike at left found
  right_operand b.Ne left at found = alike at left found
  right_operand b.Lt left at found = both (wants at found k.Int) (alike at left found)
  right_operand b.Le left at found = both (wants at found k.Int) (alike at left found)
  right_operand b.Gt left at found = both (wants at found k.Int) (alike at left found)
  right_operand b.Ge left at found = both (wants at found k.Int) (alike at left found)
  right_operand b.And left at found = wants at found k.Bool
  right_operand b.Or left at found = wants at found k.Bool

  abbrev pub first_operand : Links → ℕ → Option ValueKind → M
  first_operand no_links at found = none
  first_operand (link op e rest) at found = left_operand op at found

  abbrev pub params_of : Option Callee → List Parameter
  params_of None = []
  params_of (Some f) = f.params

  abbrev mutual
    pub broken_in_expression : Names → Locals → Expression → M
    broken_in_expression c l (placed at s) = broken_in_expression_form c l s

    pub broken_in_expression_form : Names → Locals → ExpressionForm → M
    broken_in_expression_form c l (int n) = none
    broken_in_expression_form c l (bool x) = none
    broken_in_expression_form c l no_rev = none
    broken_in_expression_form c l (var w) = scalar_use w (find w.text l) (c.shared w.text)
    broken_in_expression_form c l (cell w index) =
        both (array_use w (find w.text l) (c.shared w.text))
        (both (broken_in_expression c l index) (wants (expression_place index) (kind_in c l index) k.Int))
    broken_in_expression_form c l (apply w args) = args_by c l (params_of (c.funs w.text)) 0 none args
    broken_in_expression_form c l (input at index) =
        both (input_use c.inside at)
        (both (broken_in_expression c l index) (wants (expression_place index) (kind_in c l index) k.Int))
    broken_in_expression_form c l (inputs at) = input_use c.inside at
    broken_in_expression_form c l (pick test x y) =
        both (both (broken_in_expression c l test) (wants (expression_place test) (kind_in c l test) k.Bool))
        (both (both (broken_in_expression c l x) (broken_in_expression c l y))
        (alike (expression_place y) (kind_in c l x) (kind_in c l y)))
    broken_in_expression_form c l (unary op part) =
        both (broken_in_expression c l part) (wants (expression_place part) (kind_in c l part) (operand_kind op))
    broken_in_expression_form c l (chain first rest) =
        broken_in_links c l (kind_in c l first)
        (both (broken_in_expression c l first) (first_operand rest (expression_place first) (kind_in c l first))) rest

    -- the arguments from number n on, where these faults were found before
    pub args_by : Names → Locals → List Parameter → ℕ → M → Expressions → M
    args_by c l ps n found no_expressions = found
    args_by c l ps n found (expression x xs) =
        args_by c l ps (n + 1) (both found
        (both (broken_in_expression c l x) (fits (expression_place x) (kind_in c l x) (slice_get ps n)))) xs

    -- the links of a chain whose first operand has this kind, where these faults were found before
    pub broken_in_links : Names → Locals → Option ValueKind → M → Links → M
    broken_in_links c l left found no_links = found
    broken_in_links c l left found (link op x rest) =
        broken_in_links c l left
        (both found (both (broken_in_expression c l x) (right_operand op left (expression_place x) (kind_in c l x))))
        rest

  -- an expression where this kind is wanted
  abbrev pub part_by : Names → Locals → Expression → ValueKind → M
  part_by c l e wanted = both (broken_in_expression c l e) (wants (expression_place e) (kind_in c l e) wanted)

  -- argument number n for these parameters
  abbrev pub arg_by : Names → Locals → List Parameter → ℕ → Expression → M
  arg_by c l ps n e = both (broken_in_expression c l e) (fits (expression_place e) (kind_in c l e) (slice_get ps n))

  -- a name after `call` or `rfork`, with this many arguments
  abbrev pub callee_use : PlacedName → ℕ → Option Callee → M
  callee_use w n None = one (UnknownName w.at)
  callee_use w n (Some p) = if nat_eq n (length p.params) then none else one (WrongCount w.at)

  abbrev pub call_by : Names → Locals → PlacedName → Expressions → M
  call_by c l w args =
      both (callee_use w (count args) (c.procs w.text)) (args_by c l (params_of (c.procs w.text)) 0 none args)

  -- a result is wanted
  abbrev pub has_result : ℕ → Option ValueKind → M
  has_result at None = one (WrongType at)
  has_result at (Some found) = none

  -- a procedure whose result is wanted
  abbrev pub result_use : ℕ → Option Callee → M
  result_use at None = none
  result_use at (Some p) = has_result at p.result

  abbrev pub broken_in_right_side : Names → Locals → RightSide → M
  broken_in_right_side c l (plain e) = broken_in_expression c l e
  broken_in_right_side c l (called at w args) = both (result_use w.at (c.procs w.text)) (call_by c l w args)
  broken_in_right_side c l (forked at w args) = call_by c l w args
  broken_in_right_side c l (tried at handle) = part_by c l handle k.Rev

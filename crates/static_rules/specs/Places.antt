-- Where the declarations, statements and expressions of a program stand, and what is known there.
--
-- `IsBehind` and `Declares`: an item of a list with those before it, a declaration of the program;
-- `Lies` and `Stands`: a statement with its `Site`, which is what is known there; `Occurs`: an
-- expression; `Uses`: a name that is read or assigned; `Wanted` and `NoHandle`: the kind that an
-- expression is to have, or not to have.
use Rattle.std.specs.Prelude.{◌≡◌, ℕ, ◌+◌, Bool, true, false, Option, Some, None, List, [], ◌∷◌, ◌++◌, length, map, option_and_then}
use Rattle.std.specs.List.{zip}
use Rattle.rev_num.specs.declared.value.ValueKind.{ValueKind}
use Rattle.rev_num.specs.declared.value.ValueKind.TheVariants as k
use Rattle.rev_syntax.specs.Trees.{PlacedName, Parameter, Expression, placed, ExpressionForm, Expressions, Links, var, cell, apply, input, pick, unary, chain, no_expressions, expression, no_links, link, RightSide, plain, called, forked, tried, PrintItem, text, shown, Statement, statement, StatementForm, bind, assign, assign_cell, choose, choose_or, repeat, call, return, fork, join, print, assert, Statements, statements, Arms, no_arms, arm, Declaration, fun, merge, proc, ProgramTree}
use Rattle.rev_syntax.specs.declared.tree.UnaryOp.{UnaryOp}
use Rattle.rev_syntax.specs.declared.tree.BinaryOp.{BinaryOp}
use Rattle.typed_programs.specs.Least.{Among}
use Rattle.name_tables.specs.Table.{find}
use Rattle.typed_programs.specs.Kinds.{Callee, Names, Locals, kind_in, name_kind, operand_kind, operands, compares}
use Rattle.typed_programs.specs.Scopes.{locals_after, outside, within, with_params, merge_locals}
use Rattle.typed_programs.specs.Limits.{statement_lets, statements_lets, arms_lets}

-- in a list this stands right behind these
pub record IsBehind {A : Type 0} (before : List A) (x : A) (xs : List A) : Type 0 where
  pub rest : List A
  pub parts : xs ≡ before ++ x ∷ rest

-- a program has this declaration
pub record Declares (p : ProgramTree) (e : Declaration) : Type 0 where
  pub among : Among p.declarations e

-- ---- what a form has directly in it

abbrev pub expressions_of : Expressions → List Expression
expressions_of no_expressions = []
expressions_of (expression x xs) = x ∷ expressions_of xs

abbrev pub links_of : Links → List (BinaryOp × Expression)
links_of no_links = []
links_of (link op x rest) = (op, x) ∷ links_of rest

-- the expressions right below an expression
abbrev pub parts_of : ExpressionForm → List Expression
parts_of (cell w index) = index ∷ []
parts_of (apply w args) = expressions_of args
parts_of (input at index) = index ∷ []
parts_of (pick test x y) = test ∷ x ∷ y ∷ []
parts_of (unary op e) = e ∷ []
parts_of (chain first rest) = first ∷ map (λ l. l.1) (links_of rest)
parts_of _ = []

abbrev pub right_side_expressions : RightSide → List Expression
right_side_expressions (plain e) = e ∷ []
right_side_expressions (called at w args) = expressions_of args
right_side_expressions (forked at w args) = expressions_of args
right_side_expressions (tried at e) = e ∷ []

abbrev pub item_expressions : List PrintItem → List Expression
item_expressions [] = []
item_expressions (text at bytes ∷ xs) = item_expressions xs
item_expressions (shown e ∷ xs) = e ∷ item_expressions xs

abbrev pub arm_expressions : Arms → List Expression
arm_expressions no_arms = []
arm_expressions (arm test body rest) = test ∷ arm_expressions rest

-- the expressions of a statement, without those of its blocks
abbrev pub statement_form_expressions : StatementForm → List Expression
statement_form_expressions (bind w x) = right_side_expressions x
statement_form_expressions (assign w x) = right_side_expressions x
statement_form_expressions (assign_cell w index e) = index ∷ e ∷ []
statement_form_expressions (choose arms) = arm_expressions arms
statement_form_expressions (choose_or arms last) = arm_expressions arms
statement_form_expressions (repeat test body) = test ∷ []
statement_form_expressions (call w args) = expressions_of args
statement_form_expressions (return None) = []
statement_form_expressions (return (Some e)) = e ∷ []
statement_form_expressions (fork w args) = expressions_of args
statement_form_expressions (join e) = e ∷ []
statement_form_expressions (print items) = item_expressions items
statement_form_expressions (assert e) = e ∷ []

-- the right side of a statement that has one
abbrev pub right_side_of : StatementForm → Option RightSide
right_side_of (bind w x) = Some x
right_side_of (assign w x) = Some x
right_side_of _ = None

abbrev pub right_side_call : RightSide → Option (PlacedName × Expressions)
right_side_call (called at w args) = Some (w, args)
right_side_call (forked at w args) = Some (w, args)
right_side_call _ = None

-- the name and the arguments behind the `call` or the `rfork` of a statement that has one
abbrev pub call_of : StatementForm → Option (PlacedName × Expressions)
call_of (call w args) = Some (w, args)
call_of (fork w args) = Some (w, args)
call_of form = option_and_then right_side_call (right_side_of form)

-- the tests and blocks of an `if` or a `while`
abbrev pub arms_of : StatementForm → Arms
arms_of (choose arms) = arms
arms_of (choose_or arms last) = arms
arms_of (repeat test body) = arm test body no_arms
arms_of _ = no_arms

-- a test and its block, and how many `let`s stand in the blocks before it
pub data ArmOf : Arms → ℕ → Expression → Statements → Type 0 where
  first_arm : (test : Expression) (body : Statements) (rest : Arms) → ArmOf (arm test body rest) 0 test body
  later_arm : (t : Expression) (s : Statements) {rest : Arms} {n : ℕ} {test : Expression} {body : Statements}
      → ArmOf rest n test body → ArmOf (arm t s rest) (statements_lets s + n) test body

-- ---- statements

-- what is known at a statement: what names mean and which locals are in scope, the result of its
-- procedure, and how many parameters and `let`s of the procedure stand before it
pub record Site : Type 0 where
  pub names : Names
  pub locals : Locals
  pub result : Option ValueKind
  pub before : ℕ

-- the statements of a block from one on, with what is known at that one
pub data Lies (p : ProgramTree) : Site → Statements → Type 0 where
  in_proc : {w : PlacedName} {ps : List Parameter} {r : Option ValueKind} {body : Statements}
      → Declares p (proc w ps r body)
      → Lies p (record { names = outside p.declarations; locals = with_params [] ps; result = r; before = length ps })
      body
  in_main : Lies p (record { names = outside p.declarations; locals = []; result = None; before = 0 }) p.main
  next : {i : Site} {s : Statement} {rest : Statements}
      → Lies p i (statements s rest)
      → Lies p (record i { locals = locals_after i.names i.locals s; before = i.before + statement_lets s }) rest
  in_arm : {i : Site} {at line : ℕ} {form : StatementForm} {rest : Statements} {n : ℕ} {test : Expression}
      {body : Statements}
      → Lies p i (statements (statement at line form) rest) → ArmOf (arms_of form) n test body
      → Lies p (record i { before = i.before + n }) body
  in_else : {i : Site} {at line : ℕ} {arms : Arms} {last : Statements} {rest : Statements}
      → Lies p i (statements (statement at line (choose_or arms last)) rest)
      → Lies p (record i { before = i.before + arms_lets arms }) last

-- a statement of this form, and its place
pub record Stands (p : ProgramTree) (i : Site) (form : StatementForm) : Type 0 where
  pub at : ℕ
  pub line : ℕ
  pub rest : Statements
  pub lies : Lies p i (statements (statement at line form) rest)

-- ---- expressions

-- an expression, where names mean this and these locals are in scope
pub data Occurs (p : ProgramTree) : Names → Locals → Expression → Type 0 where
  in_fun : {w : PlacedName} {ps : List Parameter} {r : ValueKind} {e : Expression}
      → Declares p (fun w ps r e) → Occurs p (within p.declarations) (with_params [] ps) e
  in_merge : {w m j r : PlacedName} {e : Expression}
      → Declares p (merge w m j r e) → Occurs p (within p.declarations) (merge_locals m j r) e
  in_statement_form : {i : Site} {form : StatementForm} {e : Expression}
      → Stands p i form → Among (statement_form_expressions form) e → Occurs p i.names i.locals e
  in_part : {c : Names} {l : Locals} {at : ℕ} {s : ExpressionForm} {e : Expression}
      → Occurs p c l (placed at s) → Among (parts_of s) e → Occurs p c l e

-- a name that is read or assigned, with an index or without
pub data Uses (p : ProgramTree) : Names → Locals → PlacedName → Bool → Type 0 where
  read : {c : Names} {l : Locals} {at : ℕ} {w : PlacedName} → Occurs p c l (placed at (var w)) → Uses p c l w false
  read_cell : {c : Names} {l : Locals} {at : ℕ} {w : PlacedName} {index : Expression}
      → Occurs p c l (placed at (cell w index)) → Uses p c l w true
  written : {i : Site} {w : PlacedName} {x : RightSide}
      → Stands p i (assign w x) → Uses p i.names i.locals w false
  written_cell : {i : Site} {w : PlacedName} {index e : Expression}
      → Stands p i (assign_cell w index e) → Uses p i.names i.locals w true

-- an expression at which this kind is wanted
pub data Wanted (p : ProgramTree) : Names → Locals → Expression → ValueKind → Type 0 where
  fun_body : {w : PlacedName} {ps : List Parameter} {r : ValueKind} {e : Expression}
      → Declares p (fun w ps r e) → Wanted p (within p.declarations) (with_params [] ps) e r
  merge_body : {w m j r : PlacedName} {e : Expression}
      → Declares p (merge w m j r e) → Wanted p (within p.declarations) (merge_locals m j r) e k.Int
  tested : {i : Site} {form : StatementForm} {n : ℕ} {e : Expression} {body : Statements}
      → Stands p i form → ArmOf (arms_of form) n e body → Wanted p i.names i.locals e k.Bool
  asserted : {i : Site} {e : Expression}
      → Stands p i (assert e) → Wanted p i.names i.locals e k.Bool
  joined : {i : Site} {e : Expression}
      → Stands p i (join e) → Wanted p i.names i.locals e k.Rev
  try_joined : {i : Site} {at : ℕ} {form : StatementForm} {e : Expression}
      → Stands p i form → right_side_of form ≡ Some (tried at e) → Wanted p i.names i.locals e k.Rev
  returned : {i : Site} {t : ValueKind} {e : Expression}
      → Stands p i (return (Some e)) → i.result ≡ Some t → Wanted p i.names i.locals e t
  written_at : {i : Site} {w : PlacedName} {index e : Expression}
      → Stands p i (assign_cell w index e) → Wanted p i.names i.locals index k.Int
  written_value : {i : Site} {w : PlacedName} {index e : Expression} {t : ValueKind}
      → Stands p i (assign_cell w index e) → name_kind (find w.text i.locals) (i.names.shared w.text) ≡ Some t
      → Wanted p i.names i.locals e t
  call_argument : {i : Site} {form : StatementForm} {w : PlacedName} {args : Expressions} {f : Callee} {e : Expression}
      (q : Parameter)
      → Stands p i form → call_of form ≡ Some (w, args) → i.names.procs w.text ≡ Some f
      → Among (zip (expressions_of args) f.params) (e, q)
      → Wanted p i.names i.locals e q.kind
  fun_argument : {c : Names} {l : Locals} {at : ℕ} {w : PlacedName} {args : Expressions} {f : Callee} {e : Expression}
      (q : Parameter)
      → Occurs p c l (placed at (apply w args)) → c.funs w.text ≡ Some f
      → Among (zip (expressions_of args) f.params) (e, q) → Wanted p c l e q.kind
  at_index : {c : Names} {l : Locals} {at : ℕ} {w : PlacedName} {e : Expression} → Occurs p c l (placed at (cell w e))
      → Wanted p c l e k.Int
  at_position : {c : Names} {l : Locals} {at at' : ℕ} {e : Expression} → Occurs p c l (placed at (input at' e))
      → Wanted p c l e k.Int
  picked_by : {c : Names} {l : Locals} {at : ℕ} {e x y : Expression} → Occurs p c l (placed at (pick e x y))
      → Wanted p c l e k.Bool
  picked_last : {c : Names} {l : Locals} {at : ℕ} {e x y : Expression} {t : ValueKind}
      → Occurs p c l (placed at (pick e x y)) → kind_in c l x ≡ Some t → Wanted p c l y t
  operand : {c : Names} {l : Locals} {at : ℕ} {e : Expression} {op : UnaryOp} → Occurs p c l (placed at (unary op e))
      → Wanted p c l e (operand_kind op)
  on_left : {c : Names} {l : Locals} {at : ℕ} {e x : Expression} {op : BinaryOp} {rest : Links} {t : ValueKind}
      → Occurs p c l (placed at (chain e (link op x rest))) → operands op ≡ Some t → Wanted p c l e t
  on_right : {c : Names} {l : Locals} {at : ℕ} {e x : Expression} (op : BinaryOp) {rest : Links} {t : ValueKind}
      → Occurs p c l (placed at (chain x rest)) → Among (links_of rest) (op, e) → operands op ≡ Some t
      → Wanted p c l e t
  compared : {c : Names} {l : Locals} {at : ℕ} {e x : Expression} (op : BinaryOp) {rest : Links} {t : ValueKind}
      → Occurs p c l (placed at (chain x rest)) → Among (links_of rest) (op, e) → compares op ≡ true
      → kind_in c l x ≡ Some t → Wanted p c l e t

-- an expression that may not be a handle
pub data NoHandle (p : ProgramTree) : Names → Locals → Expression → Type 0 where
  fun_value : {w : PlacedName} {ps : List Parameter} {r : ValueKind} {e : Expression}
      → Declares p (fun w ps r e) → NoHandle p (within p.declarations) (with_params [] ps) e
  printed : {i : Site} {items : List PrintItem} {e : Expression}
      → Stands p i (print items) → Among items (shown e) → NoHandle p i.names i.locals e
  compared_first : {c : Names} {l : Locals} {at : ℕ} {e x : Expression} {op : BinaryOp} {rest : Links}
      → Occurs p c l (placed at (chain e (link op x rest))) → operands op ≡ None → NoHandle p c l e

-- ---- declarations

-- the declared parameters of a fun or a procedure
abbrev pub parameters_of : Declaration → List Parameter
parameters_of (fun w ps r body) = ps
parameters_of (proc w ps r body) = ps
parameters_of _ = []

abbrev pub parameter_word : Parameter → PlacedName
parameter_word q = q.name

-- the names of a declaration's parameters
abbrev pub param_words : Declaration → List PlacedName
param_words (merge w m j r body) = m ∷ j ∷ r ∷ []
param_words e = map parameter_word (parameters_of e)

-- The rules on applications of funs: which funs may be applied where, and to how many arguments.
use Rattle.std.specs.Prelude.{ℕ, ◌+◌, if◌then◌else◌, nat_eq, nat_le, length, map, Option, Some, None, List, [], ◌∷◌, ◌++◌, codes}
use Rattle.rev_syntax.specs.Trees.{PlacedName, Expression, placed, ExpressionForm, Expressions, Links, int, bool, no_rev, var, cell, apply, input, inputs, pick, unary, chain, no_expressions, expression, no_links, link, RightSide, plain, called, forked, tried, PrintItem, text, shown, Statement, statement, StatementForm, bind, assign, assign_cell, choose, choose_or, repeat, call, return, fork, join, print, assert, Statements, no_statements, statements, Arms, no_arms, arm, Declaration, fun, merge, shared, proc, ProgramTree}
use Rattle.typed_programs.specs.Least.{Row}
use Rattle.name_tables.specs.Names.{Name, same}
use Rattle.typed_programs.specs.declared.fun_fault.MergeFault.{MergeFault}
use Rattle.typed_programs.specs.declared.fun_fault.MergeFault.TheVariants.{UnknownFun, LaterFun, Arity, OutOfMemory}
use Rattle.typed_programs.specs.declared.expanded.FunHead.{FunHead}

-- ---- the applications of a program

-- an application: the name, how many arguments it has, and how many of the program's first
-- declarations it may use
pub record Use : Type 0 where
  pub name : PlacedName
  pub args : ℕ
  pub within : ℕ

abbrev pub count : Expressions → ℕ
count no_expressions = 0
count (expression x xs) = 1 + count xs

abbrev mutual
  -- the applications in an expression, from left to right
  pub expression_uses : ℕ → Expression → List Use
  expression_uses n (placed at s) = expression_form_uses n s

  pub expression_form_uses : ℕ → ExpressionForm → List Use
  expression_form_uses n (cell w index) = expression_uses n index
  expression_form_uses n (apply w args) =
      record { name = w; args = count args; within = n } ∷ expressions_uses n args
  expression_form_uses n (input at index) = expression_uses n index
  expression_form_uses n (pick test a b) =
      expression_uses n test ++ expression_uses n a ++ expression_uses n b
  expression_form_uses n (unary op part) = expression_uses n part
  expression_form_uses n (chain first rest) = expression_uses n first ++ links_uses n rest
  expression_form_uses n (int z) = []
  expression_form_uses n (bool b) = []
  expression_form_uses n no_rev = []
  expression_form_uses n (var w) = []
  expression_form_uses n (inputs at) = []

  pub expressions_uses : ℕ → Expressions → List Use
  expressions_uses n no_expressions = []
  expressions_uses n (expression x xs) = expression_uses n x ++ expressions_uses n xs

  pub links_uses : ℕ → Links → List Use
  links_uses n no_links = []
  links_uses n (link op part rest) = expression_uses n part ++ links_uses n rest

abbrev pub right_side_uses : ℕ → RightSide → List Use
right_side_uses n (plain e) = expression_uses n e
right_side_uses n (called at w args) = expressions_uses n args
right_side_uses n (forked at w args) = expressions_uses n args
right_side_uses n (tried at handle) = expression_uses n handle

abbrev pub item_uses : ℕ → PrintItem → List Use
item_uses n (text at bytes) = []
item_uses n (shown e) = expression_uses n e

abbrev pub items_uses : ℕ → List PrintItem → List Use
items_uses n [] = []
items_uses n (x ∷ xs) = item_uses n x ++ items_uses n xs

abbrev pub value_uses : ℕ → Option Expression → List Use
value_uses n None = []
value_uses n (Some e) = expression_uses n e

abbrev mutual
  -- the applications in a statement
  pub statement_uses : ℕ → Statement → List Use
  statement_uses n (statement at line form) = statement_form_uses n form

  pub statement_form_uses : ℕ → StatementForm → List Use
  statement_form_uses n (bind w r) = right_side_uses n r
  statement_form_uses n (assign w r) = right_side_uses n r
  statement_form_uses n (assign_cell w index value) =
      expression_uses n index ++ expression_uses n value
  statement_form_uses n (choose arms) = arms_uses n arms
  statement_form_uses n (choose_or arms last) = arms_uses n arms ++ statements_uses n last
  statement_form_uses n (repeat test body) = expression_uses n test ++ statements_uses n body
  statement_form_uses n (call w args) = expressions_uses n args
  statement_form_uses n (return value) = value_uses n value
  statement_form_uses n (fork w args) = expressions_uses n args
  statement_form_uses n (join handle) = expression_uses n handle
  statement_form_uses n (print items) = items_uses n items
  statement_form_uses n (assert test) = expression_uses n test

  pub statements_uses : ℕ → Statements → List Use
  statements_uses n no_statements = []
  statements_uses n (statements s rest) = statement_uses n s ++ statements_uses n rest

  pub arms_uses : ℕ → Arms → List Use
  arms_uses n no_arms = []
  arms_uses n (arm test body rest) =
      expression_uses n test ++ statements_uses n body ++ arms_uses n rest

-- the applications in the declaration of this number, in a program of n declarations: the body of a
-- fun or a merge may use those before it, and a procedure may use all
abbrev pub declaration_uses : ℕ → ℕ → Declaration → List Use
declaration_uses n d (fun w params result body) = expression_uses d body
declaration_uses n d (merge w m j r body) = expression_uses d body
declaration_uses n d (shared x) = []
declaration_uses n d (proc w params result body) = statements_uses n body

abbrev pub declarations_uses : ℕ → ℕ → List Declaration → List Use
declarations_uses n d [] = []
declarations_uses n d (e ∷ es) = declaration_uses n d e ++ declarations_uses n (d + 1) es

abbrev pub uses_in : ProgramTree → List Use
uses_in p =
    let n = length p.declarations in
    declarations_uses n 0 p.declarations ++ statements_uses n p.main

-- ---- the funs of a program

abbrev pub head : ℕ → ℕ → ℕ → FunHead
head decl number params = record { decl = decl; number = number; params = params }

-- the first fun of a name, in declarations that begin with this number, with this many funs before
abbrev pub first_fun : ℕ → ℕ → List Declaration → Name → Option FunHead
first_fun d k [] name = None
first_fun d k (fun w params result body ∷ es) name =
    if same name w.text then Some (head d k (length params)) else first_fun (d + 1) (k + 1) es name
first_fun d k (merge w m j r body ∷ es) name = first_fun (d + 1) k es name
first_fun d k (shared x ∷ es) name = first_fun (d + 1) k es name
first_fun d k (proc w params result body ∷ es) name = first_fun (d + 1) k es name

-- with two funs of one name the first counts
abbrev pub fun_named : ProgramTree → Name → Option FunHead
fun_named p name = first_fun 0 0 p.declarations name

-- the numbers of the declarations that are funs, and of those that are merges
abbrev pub fun_decls : ℕ → List Declaration → List ℕ
fun_decls d [] = []
fun_decls d (fun w params result body ∷ es) = d ∷ fun_decls (d + 1) es
fun_decls d (merge w m j r body ∷ es) = fun_decls (d + 1) es
fun_decls d (shared x ∷ es) = fun_decls (d + 1) es
fun_decls d (proc w params result body ∷ es) = fun_decls (d + 1) es

abbrev pub merge_decls : ℕ → List Declaration → List ℕ
merge_decls d [] = []
merge_decls d (fun w params result body ∷ es) = merge_decls (d + 1) es
merge_decls d (merge w m j r body ∷ es) = d ∷ merge_decls (d + 1) es
merge_decls d (shared x ∷ es) = merge_decls (d + 1) es
merge_decls d (proc w params result body ∷ es) = merge_decls (d + 1) es

-- ---- the rules

-- the place of a fault, its rank among the faults at one place, and what is said of it
abbrev pub row : MergeFault → Row
row (UnknownFun at) = (at, 1, codes "unknown fun")
row (LaterFun at) = (at, 2, codes "fun declared later")
row (Arity at) = (at, 3, codes "wrong number of arguments")
row OutOfMemory = (0, 4, [])

abbrev pub place : MergeFault → ℕ
place f = (row f).0

abbrev pub rank : MergeFault → ℕ
rank f = (row f).1

-- inside a fun or a merge only a fun that is declared earlier may be applied
abbrev pub later_here : Use → FunHead → List MergeFault
later_here u h = if nat_le u.within h.decl then LaterFun u.name.at ∷ [] else []

-- a fun is applied to as many arguments as it has parameters
abbrev pub arity_here : Use → FunHead → List MergeFault
arity_here u h = if nat_eq u.args h.params then [] else Arity u.name.at ∷ []

-- the rules that an application breaks, where its name means this fun
abbrev pub broken_by : Use → Option FunHead → List MergeFault
broken_by u None = UnknownFun u.name.at ∷ []
broken_by u (Some h) = later_here u h ++ arity_here u h

-- the rules on funs that the applications break
abbrev pub broken_in : (Name → Option FunHead) → List Use → List MergeFault
broken_in named [] = []
broken_in named (u ∷ us) = broken_by u (named u.name.text) ++ broken_in named us

abbrev pub fun_faults : ProgramTree → List MergeFault
fun_faults p = broken_in (fun_named p) (uses_in p)

-- ---- the numbers of the applied funs

abbrev pub number_at : Option FunHead → ℕ
number_at None = 0
number_at (Some h) = h.number

abbrev pub numbers_of : (Name → Option FunHead) → List Use → List ℕ
numbers_of named us = map (λ u. number_at (named u.name.text)) us

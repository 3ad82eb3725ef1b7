-- The rules on applications of funs that a program breaks, each with its place.
--
-- `Inside`: an expression or a part of it; `Applies`: an application, with the number of declarations
-- that it may use; `IsFirstFun`: the fun that a name means; `BreaksFun`: a program breaks a rule on
-- funs, and this is the fault; `IsFirstBrokenFun`: the first such; `KeepsFunRules`: there is none.
use Rattle.std.specs.Prelude.{◌≡◌, ◌≢◌, ℕ, ◌≤◌, List, length}
use Rattle.rev_num.specs.declared.value.ValueKind.{ValueKind}
use Rattle.rev_syntax.specs.Trees.{PlacedName, Parameter, Expression, placed, ExpressionForm, Expressions, apply, StatementForm, Declaration, fun, merge, ProgramTree}
use Rattle.name_tables.specs.Names.{Name}
use Rattle.typed_programs.specs.Least.{Among, IsFirstOf}
use Rattle.typed_programs.specs.FunRules.{row}
use Rattle.typed_programs.specs.declared.fun_fault.MergeFault.{MergeFault}
use Rattle.typed_programs.specs.declared.fun_fault.MergeFault.TheVariants.{UnknownFun, LaterFun, Arity}
use Rattle.static_rules.specs.Places.{IsBehind, Site, Stands, expressions_of, parts_of, statement_form_expressions}

-- an expression itself, or a part of it
pub data Inside (e : Expression) : Expression → Type 0 where
  itself : Inside e e
  deeper : {at : ℕ} {s : ExpressionForm} {x : Expression}
      → Inside e (placed at s) → Among (parts_of s) x → Inside e x

-- the application of a name to arguments, where this many of the program's first declarations may be
-- used: inside a fun or a merge those before it, and elsewhere all
pub data Applies (p : ProgramTree) : ℕ → PlacedName → Expressions → Type 0 where
  of_fun : {before : List Declaration} {f : PlacedName} {ps : List Parameter} {r : ValueKind}
      {body : Expression} {at : ℕ} {w : PlacedName} {args : Expressions}
      → IsBehind before (fun f ps r body) p.declarations → Inside body (placed at (apply w args))
      → Applies p (length before) w args
  of_merge : {before : List Declaration} {f m j r : PlacedName}
      {body : Expression} {at : ℕ} {w : PlacedName} {args : Expressions}
      → IsBehind before (merge f m j r body) p.declarations → Inside body (placed at (apply w args))
      → Applies p (length before) w args
  of_statement : {i : Site} {form : StatementForm}
      {e : Expression} {at : ℕ} {w : PlacedName} {args : Expressions}
      → Stands p i form → Among (statement_form_expressions form) e → Inside e (placed at (apply w args))
      → Applies p (length p.declarations) w args

-- a fun of this name
abbrev pub IsFunOf : Name → Declaration → Type 0
IsFunOf name (fun w ps r body) = w.text ≡ name
IsFunOf name _ = ⊥

-- the fun that a name means, with two of one name the first: behind these declarations, and with
-- these parameters
pub record IsFirstFun (p : ProgramTree) (name : Name) (before : List Declaration) (ps : List Parameter) : Type 0 where
  pub word : PlacedName
  pub result : ValueKind
  pub body : Expression
  pub stands : IsBehind before (fun word ps result body) p.declarations
  pub named : word.text ≡ name
  pub first : (e : Declaration) → Among before e → IsFunOf name e → ⊥

-- a program breaks a rule on funs, and this is the fault with its place
pub data BreaksFun (p : ProgramTree) : MergeFault → Type 0 where
  -- a name that no fun has
  unknown_fun : {n : ℕ} {w : PlacedName} {args : Expressions}
      → Applies p n w args → ((e : Declaration) → Among p.declarations e → IsFunOf w.text e → ⊥)
      → BreaksFun p (UnknownFun w.at)
  -- a fun that is not among the declarations that may be used there
  later_fun : {n : ℕ} {w : PlacedName} {args : Expressions} {before : List Declaration} {ps : List Parameter}
      → Applies p n w args → IsFirstFun p w.text before ps → n ≤ length before
      → BreaksFun p (LaterFun w.at)
  -- another number of arguments than the fun has parameters
  other_arity : {n : ℕ} {w : PlacedName} {args : Expressions} {before : List Declaration} {ps : List Parameter}
      → Applies p n w args → IsFirstFun p w.text before ps → length (expressions_of args) ≢ length ps
      → BreaksFun p (Arity w.at)

-- of all rules on funs that a program breaks this is at the least place, and there of the least number
abbrev pub IsFirstBrokenFun : ProgramTree → MergeFault → Type 0
IsFirstBrokenFun p f = IsFirstOf (BreaksFun p) row f

-- a program breaks no rule on funs
abbrev pub KeepsFunRules : ProgramTree → Type 0
KeepsFunRules p = (f : MergeFault) → BreaksFun p f → ⊥

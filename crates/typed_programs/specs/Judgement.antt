-- The typing rules of statements, declarations and whole programs, one for each form: what holds of
-- names, of kinds, of the numbers of arguments and cells, and of returns.
--
-- `RightSideHas`: the kind of a right side; `StatementTyped` and `StatementsTyped`: statements that are
-- typed, with what is in scope before and behind; `Ends`: a block that returns; `DeclarationTyped`:
-- the rules on declarations; `ProgramTyped`: a whole program.
--
-- Limits are no part of these rules, and neither is the order in which funs may apply one another.
use Rattle.std.specs.Prelude.{◌≡◌, ◌≢◌, ℕ, Option, Some, None, List, [], ◌∷◌, length}
use Rattle.rev_num.specs.declared.value.ValueKind.{ValueKind}
use Rattle.rev_num.specs.declared.value.ValueKind.TheVariants as k
use Rattle.rev_num.specs.Value.{kind_of}
use Rattle.rev_syntax.specs.Trees.{PlacedName, Parameter, ArraySize, Constant, SharedDeclaration, Expression, Expressions, RightSide, plain, called, forked, tried, PrintItem, text, shown, Statement, statement, StatementForm, bind, assign, assign_cell, choose, choose_or, repeat, call, return, fork, join, print, assert, Statements, no_statements, statements, Arms, no_arms, arm, Declaration, fun, merge, shared, proc, ProgramTree}
use Rattle.typed_programs.specs.FunRules.{count}
use Rattle.typed_programs.specs.Least.{Among}
use Rattle.name_tables.specs.Names.{Name}
use Rattle.name_tables.specs.Table.{find, added}
use Rattle.typed_programs.specs.Kinds.{Callee, Names, Locals}
use Rattle.typed_programs.specs.Typing.{ScalarHas, ArrayHas, HasKind, ArgsHave}
use Rattle.typed_programs.specs.Scopes.{outside, within, with_params, merge_locals, size_cells}

-- ---- right sides

-- a name after `call` or `rfork` is that of this procedure, and there are as many arguments as it has
-- parameters, each of the kind of its parameter
abbrev pub CallTyped : Names → Locals → PlacedName → Expressions → Callee → Type 0
CallTyped c l w args p = (c.procs w.text ≡ Some p) × (count args ≡ length p.params) × ArgsHave c l p.params 0 args

-- with these locals a right side has this kind
abbrev pub RightSideHas : Names → Locals → RightSide → ValueKind → Type 0
RightSideHas c l (plain e) t = HasKind c l e t
RightSideHas c l (called at w args) t = (p : Callee) × CallTyped c l w args p × (p.result ≡ Some t)
RightSideHas c l (forked at w args) t = (t ≡ k.Rev) × ((p : Callee) × CallTyped c l w args p)
RightSideHas c l (tried at handle) t = (t ≡ k.Bool) × HasKind c l handle k.Rev

-- ---- statements

-- the name of no local in scope and of no shared variable
abbrev pub IsNew : Names → Locals → PlacedName → Type 0
IsNew c l w = (find w.text l ≡ None) × (c.shared w.text ≡ None)

-- an item of a print is no handle
abbrev pub ItemTyped : Names → Locals → PrintItem → Type 0
ItemTyped c l (text at bytes) = Unit {0}
ItemTyped c l (shown e) = (t : ValueKind) × HasKind c l e t × (t ≢ k.Rev)

abbrev pub ItemsTyped : Names → Locals → List PrintItem → Type 0
ItemsTyped c l [] = Unit {0}
ItemsTyped c l (x ∷ xs) = ItemTyped c l x × ItemsTyped c l xs

-- a procedure with a result returns a value of its kind; one without, and `main`, return none
abbrev pub ReturnTyped : Names → Locals → Option ValueKind → Option Expression → Type 0
ReturnTyped c l None None = Unit {0}
ReturnTyped c l None (Some e) = ⊥
ReturnTyped c l (Some t) None = ⊥
ReturnTyped c l (Some t) (Some e) = HasKind c l e t

abbrev mutual
  -- in a procedure with this result a statement is typed with the first locals in scope, and the
  -- second are in scope behind it
  pub StatementTyped : Names → Option ValueKind → Locals → Statement → Locals → Type 0
  StatementTyped c result l (statement at line form) l' = StatementFormTyped c result l form l'

  pub StatementFormTyped : Names → Option ValueKind → Locals → StatementForm → Locals → Type 0
  StatementFormTyped c result l (bind w r) l' =
      IsNew c l w × ((t : ValueKind) × RightSideHas c l r t × (l' ≡ added l w.text (Some t)))
  StatementFormTyped c result l (assign w r) l' =
      ((t : ValueKind) × ScalarHas (find w.text l) (c.shared w.text) t × RightSideHas c l r t) × (l' ≡ l)
  StatementFormTyped c result l (assign_cell w index e) l' =
      ((t : ValueKind) × ArrayHas (find w.text l) (c.shared w.text) t × HasKind c l index k.Int × HasKind c l e t)
      × (l' ≡ l)
  StatementFormTyped c result l (choose arms) l' = ArmsTyped c result l arms × (l' ≡ l)
  StatementFormTyped c result l (choose_or arms last) l' =
      (ArmsTyped c result l arms × StatementsTyped c result l last) × (l' ≡ l)
  StatementFormTyped c result l (repeat test body) l' =
      (HasKind c l test k.Bool × StatementsTyped c result l body) × (l' ≡ l)
  StatementFormTyped c result l (call w args) l' = ((p : Callee) × CallTyped c l w args p) × (l' ≡ l)
  StatementFormTyped c result l (return e) l' = ReturnTyped c l result e × (l' ≡ l)
  StatementFormTyped c result l (fork w args) l' = ((p : Callee) × CallTyped c l w args p) × (l' ≡ l)
  StatementFormTyped c result l (join handle) l' = HasKind c l handle k.Rev × (l' ≡ l)
  StatementFormTyped c result l (print items) l' = ItemsTyped c l items × (l' ≡ l)
  StatementFormTyped c result l (assert test) l' = HasKind c l test k.Bool × (l' ≡ l)

  -- the statements of a block, each with what is in scope behind the one before it
  pub StatementsTyped : Names → Option ValueKind → Locals → Statements → Type 0
  StatementsTyped c result l no_statements = Unit {0}
  StatementsTyped c result l (statements s rest) =
      (l' : Locals) × StatementTyped c result l s l' × StatementsTyped c result l' rest

  -- the tests and blocks of an `if`; what a block binds is not in scope behind it
  pub ArmsTyped : Names → Option ValueKind → Locals → Arms → Type 0
  ArmsTyped c result l no_arms = Unit {0}
  ArmsTyped c result l (arm test body rest) =
      HasKind c l test k.Bool × StatementsTyped c result l body × ArmsTyped c result l rest

-- ---- blocks that return

mutual
  -- the last statement of a block is `return`, or an `if` with a last `else` whose blocks all end so
  pub data Ends : Statements → Type 0 where
    by_return : {at line : ℕ} {e : Option Expression} → Ends (statements (statement at line (return e)) no_statements)
    by_if : {at line : ℕ} {arms : Arms} {last : Statements} → AllEnd arms → Ends last
        → Ends (statements (statement at line (choose_or arms last)) no_statements)
    behind : {s : Statement} {rest : Statements} → Ends rest → Ends (statements s rest)

  pub data AllEnd : Arms → Type 0 where
    no_more : AllEnd no_arms
    one_more : {test : Expression} {body : Statements} {rest : Arms} → Ends body → AllEnd rest
        → AllEnd (arm test body rest)

-- ---- declarations

-- the word that a declaration declares
abbrev pub word_of : Declaration → PlacedName
word_of (fun w ps r body) = w
word_of (merge w m j r body) = w
word_of (shared x) = x.name
word_of (proc w ps r body) = w

abbrev pub name_of : Declaration → Name
name_of e = (word_of e).text

-- the name of none of these declarations
abbrev pub IsNewName : List Declaration → PlacedName → Type 0
IsNewName before w = (e : Declaration) → Among before e → name_of e ≢ w.text

-- the parameters of a body, each of which is new behind those before it
abbrev pub ParamsNew : Names → Locals → List Parameter → Type 0
ParamsNew c l [] = Unit {0}
ParamsNew c l (p ∷ ps) = IsNew c l p.name × ParamsNew c (added l p.name.text (Some p.kind)) ps

-- a fun takes values that are no handles and gives one; its body has the kind of its result
pub record FunTyped (inner : Names) (before : List Declaration) (w : PlacedName) (ps : List Parameter) (r : ValueKind)
    (e : Expression) : Type 0 where
  pub name : IsNewName before w
  pub params : ParamsNew inner [] ps
  pub kinds : (p : Parameter) → Among ps p → p.kind ≢ k.Rev
  pub result : r ≢ k.Rev
  pub body : HasKind inner (with_params [] ps) e r

-- a merge takes three ints and gives one
pub record MergeTyped (inner : Names) (before : List Declaration) (w m j r : PlacedName) (e : Expression) : Type 0 where
  pub name : IsNewName before w
  pub params : (m.text ≢ j.text) × (m.text ≢ r.text) × (j.text ≢ r.text)
  pub body : HasKind inner (merge_locals m j r) e k.Int

-- a merge of this name
abbrev pub IsMergeOf : Name → Declaration → Type 0
IsMergeOf name (merge w m j r body) = w.text ≡ name
IsMergeOf name _ = ⊥

-- a cumulative variable holds ints and names a merge that is declared before it
abbrev pub ByTyped : List Declaration → Option PlacedName → ValueKind → Type 0
ByTyped before None t = Unit {0}
ByTyped before (Some w) t = ((e : Declaration) × Among before e × IsMergeOf w.text e) × (t ≡ k.Int)

-- an array has a cell
abbrev pub SizeTyped : Option ArraySize → Type 0
SizeTyped None = Unit {0}
SizeTyped (Some x) = size_cells x.cells ≢ 0

-- a start value is of the kind of its variable
abbrev pub FirstTyped : Option Constant → ValueKind → Type 0
FirstTyped None t = Unit {0}
FirstTyped (Some x) t = kind_of x.value ≡ t

pub record SharedTyped (before : List Declaration) (x : SharedDeclaration) : Type 0 where
  pub name : IsNewName before x.name
  pub by : ByTyped before x.by x.holds
  pub size : SizeTyped x.size
  pub first : FirstTyped x.first x.holds

-- a procedure with a result returns
abbrev pub Returns : Option ValueKind → Statements → Type 0
Returns None body = Unit {0}
Returns (Some t) body = Ends body

pub record ProcTyped (outer : Names) (before : List Declaration) (w : PlacedName) (ps : List Parameter)
    (r : Option ValueKind) (block : Statements) : Type 0 where
  pub name : IsNewName before w
  pub params : ParamsNew outer [] ps
  pub result : Returns r block
  pub body : StatementsTyped outer r (with_params [] ps) block

-- a declaration behind these, where names mean the first outside of funs and merges, and the second inside
abbrev pub DeclarationTyped : Names → Names → List Declaration → Declaration → Type 0
DeclarationTyped outer inner before (fun w ps r body) = FunTyped inner before w ps r body
DeclarationTyped outer inner before (merge w m j r body) = MergeTyped inner before w m j r body
DeclarationTyped outer inner before (shared x) = SharedTyped before x
DeclarationTyped outer inner before (proc w ps r body) = ProcTyped outer before w ps r body

-- declarations behind these, of which the last comes first
abbrev pub DeclarationsTyped : Names → Names → List Declaration → List Declaration → Type 0
DeclarationsTyped outer inner before [] = Unit {0}
DeclarationsTyped outer inner before (e ∷ es) =
    DeclarationTyped outer inner before e × DeclarationsTyped outer inner (e ∷ before) es

pub record ProgramTyped (p : ProgramTree) : Type 0 where
  pub declarations : DeclarationsTyped (outside p.declarations) (within p.declarations) [] p.declarations
  pub main : StatementsTyped (outside p.declarations) None [] p.main

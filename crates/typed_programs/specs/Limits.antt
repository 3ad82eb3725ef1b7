-- The limits on a program, by what it counts.
use Rattle.std.specs.Prelude.{ℕ, ◌+◌, ◌≤◌, List, [], ◌∷◌, length}
use Rattle.rev_syntax.specs.Trees.{Statement, statement, StatementForm, bind, assign, assign_cell, choose, choose_or, repeat, call, return, fork, join, print, assert, Statements, no_statements, statements, Arms, no_arms, arm, Declaration, fun, merge, shared, proc, ProgramTree}
use Rattle.name_tables.specs.Table.{Table}
use Rattle.rev_report.specs.declared.limit.Limit.TheVariants as limits
use Rattle.rev_report.specs.Limits.{most}
use Rattle.typed_programs.specs.Weights.{expression_weight, weights_with}
use Rattle.typed_programs.specs.Scopes.{cells_of}

-- ---- locals and items

abbrev mutual
  -- the `let`s of a statement, in all its blocks
  pub statement_lets : Statement → ℕ
  statement_lets (statement at line form) = statement_form_lets form

  pub statement_form_lets : StatementForm → ℕ
  statement_form_lets (bind w r) = 1
  statement_form_lets (choose arms) = arms_lets arms
  statement_form_lets (choose_or arms last) = arms_lets arms + statements_lets last
  statement_form_lets (repeat test body) = statements_lets body
  statement_form_lets _ = 0

  pub statements_lets : Statements → ℕ
  statements_lets no_statements = 0
  statements_lets (statements s rest) = statement_lets s + statements_lets rest

  pub arms_lets : Arms → ℕ
  arms_lets no_arms = 0
  arms_lets (arm test body rest) = statements_lets body + arms_lets rest

abbrev mutual
  -- no `print` has more items than the limit
  pub StatementPrints : Statement → Type 0
  StatementPrints (statement at line form) = StatementFormPrints form

  pub StatementFormPrints : StatementForm → Type 0
  StatementFormPrints (print items) = length items ≤ most limits.Items
  StatementFormPrints (choose arms) = ArmsPrint arms
  StatementFormPrints (choose_or arms last) = ArmsPrint arms × StatementsPrint last
  StatementFormPrints (repeat test body) = StatementsPrint body
  StatementFormPrints (bind w r) = Unit {0}
  StatementFormPrints (assign w r) = Unit {0}
  StatementFormPrints (assign_cell w index e) = Unit {0}
  StatementFormPrints (call w args) = Unit {0}
  StatementFormPrints (return e) = Unit {0}
  StatementFormPrints (fork w args) = Unit {0}
  StatementFormPrints (join e) = Unit {0}
  StatementFormPrints (assert e) = Unit {0}

  pub StatementsPrint : Statements → Type 0
  StatementsPrint no_statements = Unit {0}
  StatementsPrint (statements s rest) = StatementPrints s × StatementsPrint rest

  pub ArmsPrint : Arms → Type 0
  ArmsPrint no_arms = Unit {0}
  ArmsPrint (arm test body rest) = StatementsPrint body × ArmsPrint rest

-- a body with this many parameters
abbrev pub BodyWithin : ℕ → Statements → Type 0
BodyWithin params body = (params + statements_lets body ≤ most limits.Locals) × StatementsPrint body

-- ---- declarations

abbrev pub cells : List Declaration → ℕ
cells [] = 0
cells (shared x ∷ es) = cells_of x.size + cells es
cells (e ∷ es) = cells es

abbrev pub procs : List Declaration → ℕ
procs [] = 0
procs (proc w ps r body ∷ es) = 1 + procs es
procs (e ∷ es) = procs es

-- funs and merges together
abbrev pub funs : List Declaration → ℕ
funs [] = 0
funs (fun w ps r body ∷ es) = 1 + funs es
funs (merge w m j r body ∷ es) = 1 + funs es
funs (e ∷ es) = funs es

-- a declaration, where the funs before it have these weights
abbrev pub DeclarationWithin : Table ℕ → Declaration → Type 0
DeclarationWithin ws (fun w ps r body) =
    (length ps ≤ most limits.Parameters) × (expression_weight ws body ≤ most limits.Weight)
DeclarationWithin ws (merge w m j r body) = expression_weight ws body ≤ most limits.Weight
DeclarationWithin ws (shared x) = Unit {0}
DeclarationWithin ws (proc w ps r body) = (length ps ≤ most limits.Parameters) × BodyWithin (length ps) body

abbrev pub DeclarationsWithin : Table ℕ → List Declaration → Type 0
DeclarationsWithin ws [] = Unit {0}
DeclarationsWithin ws (e ∷ es) = DeclarationWithin ws e × DeclarationsWithin (weights_with ws e) es

pub record IsWithinLimits (p : ProgramTree) : Type 0 where
  pub locations : cells p.declarations ≤ most limits.Locations
  pub procedures : procs p.declarations ≤ most limits.Procedures
  pub declared_funs : funs p.declarations ≤ most limits.Funs
  pub declarations : DeclarationsWithin [] p.declarations
  pub main : BodyWithin 0 p.main

-- The laws between the typing rules of expressions and the list of faults that the checker goes by.
--
-- `Sound`: what breaks no rule has the kind that the rules give, where all locals have kinds and all
-- applied funs are known; `Complete`: what has a kind breaks none; `Only`: no expression has two kinds;
-- `Applies`: each application is that of a known fun.
use Rattle.std.specs.Prelude.{◌≡◌, ◌≢◌, ℕ, Option, Some, None, List, [], ◌∷◌, ◌++◌, length}
use Rattle.rev_num.specs.declared.value.ValueKind.{ValueKind}
use Rattle.rev_syntax.specs.Trees.{Expression, placed, ExpressionForm, Expressions, Links, int, bool, no_rev, var, cell, apply, input, inputs, pick, unary, chain, no_expressions, expression, no_links, link}
use Rattle.typed_programs.specs.FunRules.{count}
use Rattle.name_tables.specs.Names.{Name}
use Rattle.name_tables.specs.Table.{find}
use Rattle.typed_programs.specs.declared.fault.TypeFault.{TypeFault}
use Rattle.typed_programs.specs.Kinds.{Callee, Names, Locals, kind_in}
use Rattle.typed_programs.specs.Rules as r
use Rattle.typed_programs.specs.Typing.{HasKind}

-- each local has a kind
abbrev pub AllKinded : Locals → Type 0
AllKinded l = (name : Name) → find name l ≢ Some None

-- a fun with this many parameters, which has a result
abbrev pub IsKnown : ℕ → Option Callee → Type 0
IsKnown n None = ⊥
IsKnown n (Some f) = (n ≡ length f.params) × ((t : ValueKind) × (f.result ≡ Some t))

abbrev mutual
  -- each application is that of a fun with this many parameters, and each chain has a link
  pub Applies : Names → Expression → Type 0
  Applies c (placed at s) = ExpressionFormApplies c s

  pub ExpressionFormApplies : Names → ExpressionForm → Type 0
  ExpressionFormApplies c (int n) = Unit {0}
  ExpressionFormApplies c (bool x) = Unit {0}
  ExpressionFormApplies c no_rev = Unit {0}
  ExpressionFormApplies c (var w) = Unit {0}
  ExpressionFormApplies c (inputs at) = Unit {0}
  ExpressionFormApplies c (cell w index) = Applies c index
  ExpressionFormApplies c (apply w args) = IsKnown (count args) (c.funs w.text) × ExpressionsApply c args
  ExpressionFormApplies c (input at index) = Applies c index
  ExpressionFormApplies c (pick test x y) = Applies c test × Applies c x × Applies c y
  ExpressionFormApplies c (unary op e) = Applies c e
  ExpressionFormApplies c (chain first rest) = Applies c first × HasLink rest × LinksApply c rest

  pub ExpressionsApply : Names → Expressions → Type 0
  ExpressionsApply c no_expressions = Unit {0}
  ExpressionsApply c (expression x xs) = Applies c x × ExpressionsApply c xs

  pub LinksApply : Names → Links → Type 0
  LinksApply c no_links = Unit {0}
  LinksApply c (link op x rest) = Applies c x × LinksApply c rest

  pub HasLink : Links → Type 0
  HasLink no_links = ⊥
  HasLink (link op x rest) = Unit {0}

-- the rules that an expression breaks
abbrev pub expression_faults : Names → Locals → Expression → List TypeFault
expression_faults c l e = r.broken_in_expression [] (λ f. f ∷ []) (λ xs ys. xs ++ ys) c l e

-- where each local has a kind and each application is that of a known fun: what breaks no rule has the kind
-- that the rules give
abbrev pub Sound : Type 0
Sound = (c : Names) (l : Locals) (e : Expression) → AllKinded l → Applies c e → expression_faults c l e ≡ []
    → (t : ValueKind) × (kind_in c l e ≡ Some t) × HasKind c l e t

-- what has a kind by the rules breaks none, and the kind is the one that its outermost form fixes
abbrev pub Complete : Type 0
Complete = (c : Names) (l : Locals) (e : Expression) (t : ValueKind) → HasKind c l e t → (expression_faults c l e ≡ [])
    × (kind_in c l e ≡ Some t)

-- an expression has no two kinds
abbrev pub Only : Type 0
Only = (c : Names) (l : Locals) (e : Expression) (t u : ValueKind) → HasKind c l e t → HasKind c l e u → t ≡ u

-- The typing rules of expressions, one for each form.
use Rattle.std.specs.Prelude.{◌≡◌, ◌≢◌, ℕ, ◌+◌, true, false, Option, Some, None, List, slice_get, length}
use Rattle.rev_num.specs.declared.value.ValueKind.{ValueKind}
use Rattle.rev_num.specs.declared.value.ValueKind.TheVariants as k
use Rattle.rev_syntax.specs.Trees.{Parameter, Expression, placed, ExpressionForm, Expressions, Links, int, bool, no_rev, var, cell, apply, input, inputs, pick, unary, chain, no_expressions, expression, no_links, link}
use Rattle.rev_syntax.specs.declared.tree.BinaryOp.{BinaryOp}
use Rattle.rev_syntax.specs.declared.tree.BinaryOp.TheVariants as b
use Rattle.typed_programs.specs.FunRules.{count}
use Rattle.name_tables.specs.Table.{find}
use Rattle.typed_programs.specs.declared.names.Holder.{Holder}
use Rattle.typed_programs.specs.Kinds.{Callee, Names, Locals, links_kind, operand_kind}

-- a name is that of a scalar of this kind
abbrev pub ScalarHas : Option (Option ValueKind) → Option Holder → ValueKind → Type 0
ScalarHas (Some found) h t = found ≡ Some t
ScalarHas None (Some h) t = (h.array ≡ false) × (h.kind ≡ t)
ScalarHas None None t = ⊥

-- a name is that of an array of this kind
abbrev pub ArrayHas : Option (Option ValueKind) → Option Holder → ValueKind → Type 0
ArrayHas (Some found) h t = ⊥
ArrayHas None (Some h) t = (h.array ≡ true) × (h.kind ≡ t)
ArrayHas None None t = ⊥

-- an operator takes a left operand of this kind
abbrev pub TakesLeft : BinaryOp → ValueKind → Type 0
TakesLeft b.Add t = t ≡ k.Int
TakesLeft b.Sub t = t ≡ k.Int
TakesLeft b.Mul t = t ≡ k.Int
TakesLeft b.Div t = t ≡ k.Int
TakesLeft b.Rem t = t ≡ k.Int
TakesLeft b.Eq t = t ≢ k.Rev
TakesLeft b.Ne t = t ≢ k.Rev
TakesLeft b.Lt t = t ≡ k.Int
TakesLeft b.Le t = t ≡ k.Int
TakesLeft b.Gt t = t ≡ k.Int
TakesLeft b.Ge t = t ≡ k.Int
TakesLeft b.And t = t ≡ k.Bool
TakesLeft b.Or t = t ≡ k.Bool

-- an operator with a left operand of the first kind takes a right operand of the second
abbrev pub TakesRightSide : BinaryOp → ValueKind → ValueKind → Type 0
TakesRightSide b.Add left t = t ≡ k.Int
TakesRightSide b.Sub left t = t ≡ k.Int
TakesRightSide b.Mul left t = t ≡ k.Int
TakesRightSide b.Div left t = t ≡ k.Int
TakesRightSide b.Rem left t = t ≡ k.Int
TakesRightSide b.Eq left t = t ≡ left
TakesRightSide b.Ne left t = t ≡ left
TakesRightSide b.Lt left t = (t ≡ k.Int) × (t ≡ left)
TakesRightSide b.Le left t = (t ≡ k.Int) × (t ≡ left)
TakesRightSide b.Gt left t = (t ≡ k.Int) × (t ≡ left)
TakesRightSide b.Ge left t = (t ≡ k.Int) × (t ≡ left)
TakesRightSide b.And left t = t ≡ k.Bool
TakesRightSide b.Or left t = t ≡ k.Bool

abbrev pub TakesFirst : Links → ValueKind → Type 0
TakesFirst no_links t = ⊥
TakesFirst (link op x rest) t = TakesLeft op t

-- a parameter of this kind, where there is a parameter
abbrev pub IsOfKind : Option Parameter → ValueKind → Type 0
IsOfKind None t = Unit {0}
IsOfKind (Some p) t = t ≡ p.kind

abbrev mutual
  -- with these locals an expression has this kind
  pub HasKind : Names → Locals → Expression → ValueKind → Type 0
  HasKind c l (placed at s) t = ExpressionFormHas c l s t

  pub ExpressionFormHas : Names → Locals → ExpressionForm → ValueKind → Type 0
  ExpressionFormHas c l (int n) t = t ≡ k.Int
  ExpressionFormHas c l (bool x) t = t ≡ k.Bool
  ExpressionFormHas c l no_rev t = t ≡ k.Rev
  ExpressionFormHas c l (var w) t = ScalarHas (find w.text l) (c.shared w.text) t
  ExpressionFormHas c l (cell w index) t = ArrayHas (find w.text l) (c.shared w.text) t × HasKind c l index k.Int
  ExpressionFormHas c l (apply w args) t = (f : Callee) × (c.funs w.text ≡ Some f) × (f.result ≡ Some t)
      × (count args ≡ length f.params) × ArgsHave c l f.params 0 args
  ExpressionFormHas c l (input at index) t = (t ≡ k.Int) × (c.inside ≡ false) × HasKind c l index k.Int
  ExpressionFormHas c l (inputs at) t = (t ≡ k.Int) × (c.inside ≡ false)
  ExpressionFormHas c l (pick test x y) t = HasKind c l test k.Bool × HasKind c l x t × HasKind c l y t
  ExpressionFormHas c l (unary op e) t = (t ≡ operand_kind op) × HasKind c l e (operand_kind op)
  ExpressionFormHas c l (chain first rest) t =
      (left : ValueKind) × HasKind c l first left × TakesFirst rest left × LinksHave c l left rest
      × (links_kind rest ≡ Some t)

  -- the arguments from number n on have the kinds of these parameters
  pub ArgsHave : Names → Locals → List Parameter → ℕ → Expressions → Type 0
  ArgsHave c l ps n no_expressions = Unit {0}
  ArgsHave c l ps n (expression x xs) =
      ((t : ValueKind) × HasKind c l x t × IsOfKind (slice_get ps n) t) × ArgsHave c l ps (n + 1) xs

  -- the operands of a chain whose first operand has this kind
  pub LinksHave : Names → Locals → ValueKind → Links → Type 0
  LinksHave c l left no_links = Unit {0}
  LinksHave c l left (link op x rest) =
      ((t : ValueKind) × HasKind c l x t × TakesRightSide op left t) × LinksHave c l left rest

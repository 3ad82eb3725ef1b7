-- The code of an expression, which leaves its value on the stack.
--
-- The code is a function of the place of its first instruction, since targets of jumps are places; its size does not
-- depend on the place. `expression_code` is the table, one case for each form.
use Rattle.std.specs.Prelude.{ℕ, ◌+◌, true, false, Option, Some, None, List, [], ◌∷◌, ◌++◌}
use Rattle.rev_syntax.specs.Trees.{PlacedName, Expression, placed, ExpressionForm, Expressions, Links, int, bool, no_rev, var, cell, apply, input, inputs, pick, unary, chain, no_expressions, expression, no_links, link}
use Rattle.rev_syntax.specs.declared.tree.UnaryOp.{UnaryOp}
use Rattle.rev_syntax.specs.declared.tree.UnaryOp.TheVariants as u
use Rattle.rev_syntax.specs.declared.tree.BinaryOp.{BinaryOp}
use Rattle.rev_syntax.specs.declared.tree.BinaryOp.TheVariants as b
use Rattle.name_tables.specs.Table.{find}
use Rattle.rev_code.specs.declared.code.Instr.{Instr}
use Rattle.rev_code.specs.declared.code.Instr.TheVariants as i
use Rattle.code_generation.specs.Numbers.{Numbers, Scope}

-- ---- how many instructions

-- of an operator and its right operand, which has this many
abbrev pub link_size : BinaryOp → ℕ → ℕ
link_size b.And size = size + 3
link_size b.Or size = size + 3
link_size b.Add size = size + 1
link_size b.Sub size = size + 1
link_size b.Mul size = size + 1
link_size b.Div size = size + 1
link_size b.Rem size = size + 1
link_size b.Eq size = size + 1
link_size b.Ne size = size + 1
link_size b.Lt size = size + 1
link_size b.Le size = size + 1
link_size b.Gt size = size + 1
link_size b.Ge size = size + 1

abbrev mutual
  pub expression_size : Expression → ℕ
  expression_size (placed p form) = form_size form

  pub form_size : ExpressionForm → ℕ
  form_size (int n) = 1
  form_size (bool x) = 1
  form_size no_rev = 1
  form_size (var w) = 1
  form_size (cell w index) = expression_size index + 1
  form_size (apply w args) = expressions_size args + 1
  form_size (input p index) = expression_size index + 1
  form_size (inputs p) = 1
  form_size (pick test x y) = expression_size test + 1 + expression_size x + 1 + expression_size y
  form_size (unary op e) = expression_size e + 1
  form_size (chain first rest) = expression_size first + links_size rest

  pub expressions_size : Expressions → ℕ
  expressions_size no_expressions = 0
  expressions_size (expression e rest) = expression_size e + expressions_size rest

  pub links_size : Links → ℕ
  links_size no_links = 0
  links_size (link op e rest) = link_size op (expression_size e) + links_size rest

-- ---- which

-- push the local that the name means, or else the shared variable
abbrev pub load : Numbers → PlacedName → Option ℕ → Instr
load n w (Some local) = i.LoadLocal local
load n w None = i.LoadShared (n.var w.text)

abbrev pub unary_code : UnaryOp → Instr
unary_code u.Neg = i.Neg
unary_code u.Not = i.Not

-- The code behind a left operand: the right operand has this size, and this code at each place. `&&` and the two bars
-- leave out their right operand where the left one decides.
abbrev pub link_code : BinaryOp → (size : ℕ) → (code : ℕ → List Instr) → (at : ℕ) → List Instr
link_code b.And size code at =
    i.JumpIfFalse (at + 1 + size + 1) ∷ code (at + 1) ++ i.Jump (at + size + 3) ∷ i.PushBool false ∷ []
link_code b.Or size code at =
    i.JumpIfTrue (at + 1 + size + 1) ∷ code (at + 1) ++ i.Jump (at + size + 3) ∷ i.PushBool true ∷ []
link_code b.Add size code at = code at ++ i.Add ∷ []
link_code b.Sub size code at = code at ++ i.Sub ∷ []
link_code b.Mul size code at = code at ++ i.Mul ∷ []
link_code b.Div size code at = code at ++ i.Div ∷ []
link_code b.Rem size code at = code at ++ i.Rem ∷ []
link_code b.Eq size code at = code at ++ i.Eq ∷ []
link_code b.Ne size code at = code at ++ i.Ne ∷ []
link_code b.Lt size code at = code at ++ i.Lt ∷ []
link_code b.Le size code at = code at ++ i.Le ∷ []
link_code b.Gt size code at = code at ++ i.Gt ∷ []
link_code b.Ge size code at = code at ++ i.Ge ∷ []

-- the places of a `pick`: behind the jump over its second part, behind that part's jump, and the end
abbrev pub pick_yes : ℕ → Expression → ℕ
pick_yes at test = at + expression_size test + 1

abbrev pub pick_no : ℕ → Expression → Expression → ℕ
pick_no at test x = pick_yes at test + expression_size x + 1

abbrev pub pick_end : ℕ → Expression → Expression → Expression → ℕ
pick_end at test x y = pick_no at test x + expression_size y

abbrev mutual
  pub expression_code : Numbers → Scope → Expression → (at : ℕ) → List Instr
  expression_code n scope (placed p form) at = form_code n scope form at

  pub form_code : Numbers → Scope → ExpressionForm → (at : ℕ) → List Instr
  form_code n scope (int z) at = i.PushInt z ∷ []
  form_code n scope (bool x) at = i.PushBool x ∷ []
  form_code n scope no_rev at = i.PushNone ∷ []
  form_code n scope (var w) at = load n w (find w.text scope) ∷ []
  form_code n scope (cell w index) at = expression_code n scope index at ++ i.LoadCell (n.var w.text) ∷ []
  form_code n scope (apply w args) at = expressions_code n scope args at ++ i.Apply (n.fun w.text) ∷ []
  form_code n scope (input p index) at = expression_code n scope index at ++ i.LoadInput ∷ []
  form_code n scope (inputs p) at = i.CountInput ∷ []
  form_code n scope (pick test x y) at =
      expression_code n scope test at
      ++ i.JumpIfFalse (pick_no at test x)
      ∷ expression_code n scope x (pick_yes at test)
      ++ i.Jump (pick_end at test x y)
      ∷ expression_code n scope y (pick_no at test x)
  form_code n scope (unary op e) at = expression_code n scope e at ++ unary_code op ∷ []
  form_code n scope (chain first rest) at =
      expression_code n scope first at ++ links_code n scope rest (at + expression_size first)

  -- arguments, from left to right
  pub expressions_code : Numbers → Scope → Expressions → (at : ℕ) → List Instr
  expressions_code n scope no_expressions at = []
  expressions_code n scope (expression e rest) at =
      expression_code n scope e at ++ expressions_code n scope rest (at + expression_size e)

  pub links_code : Numbers → Scope → Links → (at : ℕ) → List Instr
  links_code n scope no_links at = []
  links_code n scope (link op e rest) at =
      link_code op (expression_size e) (λ place. expression_code n scope e place) at
      ++ links_code n scope rest (at + link_size op (expression_size e))

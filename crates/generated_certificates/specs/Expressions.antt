-- The notes of the code of an expression: what is on the stack at each of its places, above what
-- the note of its first place says.
--   word_kind          the kind of the word that the code leaves
--   expression_notes   a note for each instruction, one case for each form
--   expression_depth   so many words at most the code has on the stack at once
use Rattle.std.specs.Prelude.{ℕ, suc, max, List, [], ◌∷◌, ◌++◌}
use Rattle.rev_num.specs.declared.value.ValueKind.{ValueKind}
use Rattle.rev_num.specs.declared.value.ValueKind.TheVariants as k
use Rattle.rev_syntax.specs.Trees.{Expression, placed, ExpressionForm, Expressions, Links, int, bool, no_rev, var, cell, apply, input, inputs, pick, unary, chain, no_expressions, expression, no_links, link}
use Rattle.rev_syntax.specs.declared.tree.BinaryOp.{BinaryOp}
use Rattle.rev_syntax.specs.declared.tree.BinaryOp.TheVariants as b
use Rattle.name_tables.specs.Table.{find}
use Rattle.typed_programs.specs.Kinds.{Names, Locals, name_kind, result_of, operand_kind, given_kind}
use Rattle.code_rules.specs.Pass.{Note}
use Rattle.code_rules.specs.Shapes.{kind_or_int}
use Rattle.generated_certificates.specs.Items.{push}

-- ---- kinds

-- what a left operand of this kind becomes behind these operators
abbrev pub links_give : ValueKind → Links → ValueKind
links_give left no_links = left
links_give left (link op e rest) = links_give (given_kind op) rest

-- of an expression that keeps the rules on kinds
abbrev mutual
  pub word_kind : Names → Locals → Expression → ValueKind
  word_kind c l (placed p form) = form_kind c l form

  pub form_kind : Names → Locals → ExpressionForm → ValueKind
  form_kind c l (int z) = k.Int
  form_kind c l (bool x) = k.Bool
  form_kind c l no_rev = k.Rev
  form_kind c l (var w) = kind_or_int (name_kind (find w.text l) (c.shared w.text))
  form_kind c l (cell w index) = kind_or_int (name_kind (find w.text l) (c.shared w.text))
  form_kind c l (apply w args) = kind_or_int (result_of (c.funs w.text))
  form_kind c l (input p index) = k.Int
  form_kind c l (inputs p) = k.Int
  form_kind c l (pick test x y) = word_kind c l x
  form_kind c l (unary op e) = operand_kind op
  form_kind c l (chain first rest) = links_give (word_kind c l first) rest

-- ---- notes

-- Of an operator and its right operand, which has these notes above what is there. Behind the first
-- jump of `&&` and the bars the left operand is gone; for the others it stays below the right one.
abbrev pub link_notes : BinaryOp → (operand : Note → List Note) → (left right : ValueKind) → Note
    → List Note
link_notes b.And operand left right n = push left n ∷ operand n ++ push right n ∷ n ∷ []
link_notes b.Or operand left right n = push left n ∷ operand n ++ push right n ∷ n ∷ []
link_notes b.Add operand left right n = operand (push left n) ++ push right (push left n) ∷ []
link_notes b.Sub operand left right n = operand (push left n) ++ push right (push left n) ∷ []
link_notes b.Mul operand left right n = operand (push left n) ++ push right (push left n) ∷ []
link_notes b.Div operand left right n = operand (push left n) ++ push right (push left n) ∷ []
link_notes b.Rem operand left right n = operand (push left n) ++ push right (push left n) ∷ []
link_notes b.Eq operand left right n = operand (push left n) ++ push right (push left n) ∷ []
link_notes b.Ne operand left right n = operand (push left n) ++ push right (push left n) ∷ []
link_notes b.Lt operand left right n = operand (push left n) ++ push right (push left n) ∷ []
link_notes b.Le operand left right n = operand (push left n) ++ push right (push left n) ∷ []
link_notes b.Gt operand left right n = operand (push left n) ++ push right (push left n) ∷ []
link_notes b.Ge operand left right n = operand (push left n) ++ push right (push left n) ∷ []

-- behind arguments, of which the last is on top
abbrev pub behind_args : Names → Locals → Expressions → Note → Note
behind_args c l no_expressions n = n
behind_args c l (expression e rest) n = behind_args c l rest (push (word_kind c l e) n)

abbrev mutual
  pub expression_notes : Names → Locals → Expression → Note → List Note
  expression_notes c l (placed p form) n = form_notes c l form n

  pub form_notes : Names → Locals → ExpressionForm → Note → List Note
  form_notes c l (int z) n = n ∷ []
  form_notes c l (bool x) n = n ∷ []
  form_notes c l no_rev n = n ∷ []
  form_notes c l (var w) n = n ∷ []
  form_notes c l (cell w index) n = expression_notes c l index n ++ push k.Int n ∷ []
  form_notes c l (apply w args) n = expressions_notes c l args n ++ behind_args c l args n ∷ []
  form_notes c l (input p index) n = expression_notes c l index n ++ push k.Int n ∷ []
  form_notes c l (inputs p) n = n ∷ []
  form_notes c l (pick test x y) n =
      expression_notes c l test n
      ++ push k.Bool n
      ∷ expression_notes c l x n
      ++ push (word_kind c l x) n
      ∷ expression_notes c l y n
  form_notes c l (unary op e) n = expression_notes c l e n ++ push (operand_kind op) n ∷ []
  form_notes c l (chain first rest) n =
      expression_notes c l first n ++ links_notes c l rest (word_kind c l first) n

  -- arguments, from left to right
  pub expressions_notes : Names → Locals → Expressions → Note → List Note
  expressions_notes c l no_expressions n = []
  expressions_notes c l (expression e rest) n =
      expression_notes c l e n ++ expressions_notes c l rest (push (word_kind c l e) n)

  -- behind a left operand of this kind, which lies on what the note says
  pub links_notes : Names → Locals → Links → (left : ValueKind) → Note → List Note
  links_notes c l no_links left n = []
  links_notes c l (link op e rest) left n =
      link_notes op (λ m. expression_notes c l e m) left (word_kind c l e) n
      ++ links_notes c l rest (given_kind op) n

-- ---- depths

abbrev mutual
  pub expression_depth : Expression → ℕ
  expression_depth (placed p form) = form_depth form

  pub form_depth : ExpressionForm → ℕ
  form_depth (int z) = 1
  form_depth (bool x) = 1
  form_depth no_rev = 1
  form_depth (var w) = 1
  form_depth (cell w index) = expression_depth index
  form_depth (apply w args) = max 1 (expressions_depth args)
  form_depth (input p index) = expression_depth index
  form_depth (inputs p) = 1
  form_depth (pick test x y) =
      max (expression_depth test) (max (expression_depth x) (expression_depth y))
  form_depth (unary op e) = expression_depth e
  form_depth (chain first rest) = max (expression_depth first) (links_depth rest)

  -- each argument lies on those before it
  pub expressions_depth : Expressions → ℕ
  expressions_depth no_expressions = 0
  expressions_depth (expression e rest) = max (expression_depth e) (suc (expressions_depth rest))

  -- with the left operand below
  pub links_depth : Links → ℕ
  links_depth no_links = 1
  links_depth (link op e rest) = max (suc (expression_depth e)) (links_depth rest)

-- How much the evaluation of an expression may cost: its weight counts its parts, with those of the
-- funs that it applies.
use Rattle.std.specs.Prelude.{ℕ, ◌+◌, List, [], ◌∷◌, take, Option, Some, None, unwrap_or, slice_get}
use Rattle.rev_syntax.specs.Trees.{Expression, placed, ExpressionForm, Expressions, Links, cell, apply, input, pick, unary, chain, no_expressions, expression, no_links, link, Declaration, fun, merge, ProgramTree}
use Rattle.name_tables.specs.Names.{Name}
use Rattle.name_tables.specs.Table.{Table, find, added}
use Rattle.typed_programs.specs.FunRules.{merge_decls}

abbrev pub known_weight : Option ℕ → ℕ
known_weight found = unwrap_or found 0

abbrev mutual
  -- the weight of an expression, where the funs have these weights: 1 for each node, and 1 for each
  -- link in place of a chain's node; an application also has the weight of its fun
  pub expression_weight : Table ℕ → Expression → ℕ
  expression_weight ws (placed at s) = expression_form_weight ws s

  pub expression_form_weight : Table ℕ → ExpressionForm → ℕ
  expression_form_weight ws (cell w index) = 1 + expression_weight ws index
  expression_form_weight ws (input at index) = 1 + expression_weight ws index
  expression_form_weight ws (apply w args) =
      1 + known_weight (find w.text ws) + expressions_weight ws args
  expression_form_weight ws (pick test x y) =
      1 + expression_weight ws test + expression_weight ws x + expression_weight ws y
  expression_form_weight ws (unary op part) = 1 + expression_weight ws part
  expression_form_weight ws (chain first rest) = expression_weight ws first + links_weight ws rest
  expression_form_weight ws _ = 1

  pub expressions_weight : Table ℕ → Expressions → ℕ
  expressions_weight ws no_expressions = 0
  expressions_weight ws (expression x xs) = expression_weight ws x + expressions_weight ws xs

  pub links_weight : Table ℕ → Links → ℕ
  links_weight ws no_links = 0
  links_weight ws (link op x rest) = 1 + expression_weight ws x + links_weight ws rest

-- the weights of the funs after a declaration: with two of one name the first counts
abbrev pub weights_with : Table ℕ → Declaration → Table ℕ
weights_with ws (fun w ps r body) = added ws w.text (expression_weight ws body)
weights_with ws _ = ws

abbrev pub weights_after : Table ℕ → List Declaration → Table ℕ
weights_after ws [] = ws
weights_after ws (e ∷ es) = weights_after (weights_with ws e) es

-- the weights of the funs among the first n declarations
unfoldable pub weights_before : List Declaration → ℕ → Table ℕ
weights_before es n = weights_after [] (take n es)

-- weights, where the funs among the first n declarations may be applied
abbrev pub weight_within : List Declaration → ℕ → Expression → ℕ
weight_within es n t = expression_weight (weights_before es n) t

abbrev pub args_within : List Declaration → ℕ → Expressions → ℕ
args_within es n ts = expressions_weight (weights_before es n) ts

abbrev pub name_within : List Declaration → ℕ → Name → ℕ
name_within es n name = known_weight (find name (weights_before es n))

-- the weight of a fun or a merge, where the funs have these weights
abbrev pub declaration_weight : Table ℕ → Declaration → ℕ
declaration_weight ws (fun w ps r body) = expression_weight ws body
declaration_weight ws (merge w m j r body) = expression_weight ws body
declaration_weight ws _ = 0

abbrev pub weight_by : Table ℕ → Option Declaration → ℕ
weight_by ws (Some e) = declaration_weight ws e
weight_by ws None = 0

-- the weight of the fun or the merge that is declared at this number
unfoldable pub weight_at : List Declaration → ℕ → ℕ
weight_at es d = weight_by (weights_before es d) (slice_get es d)

abbrev pub weight_of : List Declaration → Option ℕ → ℕ
weight_of es (Some d) = weight_at es d
weight_of es None = 0

-- the weight of the merge of this number, counted from 0 in order of declaration
unfoldable pub merge_weight : ProgramTree → ℕ → ℕ
merge_weight p k = weight_of p.declarations (slice_get (merge_decls 0 p.declarations) k)

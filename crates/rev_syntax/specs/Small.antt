-- When a tree is small: it has fewer than 2^24 parts, its words have the forms of the language, and
-- its expressions are not nested deeper than a text can nest them.
use Rattle.std.specs.Prelude.{ℕ, ◌+◌, ◌<◌, ◌^◌, max, ℤ, pos, negsuc, Bool, true, false, ◌&&◌, ◌||◌, ◌==◌, nat_le, nat_lt, List, [], ◌∷◌, length, Option, Some, None, IsTrue}
use Rattle.std.specs.List.{list_all}
use Rattle.rev_num.specs.declared.value.Value.{Value}
use Rattle.rev_num.specs.declared.value.Value.TheVariants as v
use Rattle.rev_syntax.specs.declared.tree.BinaryOp.{BinaryOp}
use Rattle.rev_syntax.specs.declared.tree.BinaryOp.TheVariants as b
use Rattle.rev_syntax.specs.Bytes.{is_text_byte}
use Rattle.rev_syntax.specs.Words.{is_name}
use Rattle.rev_syntax.specs.Trees.{PlacedName, Expression, placed, ExpressionForm, int, bool, no_rev, var, cell, apply, input, inputs, pick, unary, chain, Expressions, no_expressions, expression, Links, no_links, link, RightSide, plain, called, forked, tried, PrintItem, text, shown, Statement, statement, StatementForm, bind, assign, assign_cell, choose, choose_or, repeat, call, return, fork, join, print, assert, Statements, no_statements, statements, Arms, no_arms, arm, Parameter, ArraySize, Constant, Declaration, fun, merge, shared, proc, ProgramTree}

-- How many parts a tree has: its declarations, parameters, statements, items, expressions and links,
-- and the bytes of its names and texts.

abbrev pub name_count : PlacedName → ℕ
name_count w = length w.text

abbrev mutual
  pub expression_count : Expression → ℕ
  expression_count (placed at s) = 1 + expression_form_count s

  pub expression_form_count : ExpressionForm → ℕ
  expression_form_count (int n) = 0
  expression_form_count (bool b) = 0
  expression_form_count no_rev = 0
  expression_form_count (var w) = name_count w
  expression_form_count (cell w index) = name_count w + expression_count index
  expression_form_count (apply w args) = name_count w + expressions_count args
  expression_form_count (input word_at index) = expression_count index
  expression_form_count (inputs word_at) = 0
  expression_form_count (pick test a c) =
      expression_count test + expression_count a + expression_count c
  expression_form_count (unary op part) = expression_count part
  expression_form_count (chain first rest) = expression_count first + links_count rest

  pub expressions_count : Expressions → ℕ
  expressions_count no_expressions = 0
  expressions_count (expression x rest) = expression_count x + expressions_count rest

  pub links_count : Links → ℕ
  links_count no_links = 0
  links_count (link op part rest) = 1 + expression_count part + links_count rest

abbrev pub right_side_count : RightSide → ℕ
right_side_count (plain x) = expression_count x
right_side_count (called at w args) = name_count w + expressions_count args
right_side_count (forked at w args) = name_count w + expressions_count args
right_side_count (tried at handle) = expression_count handle

abbrev pub item_count : PrintItem → ℕ
item_count (text at bytes) = 1 + length bytes
item_count (shown x) = 1 + expression_count x

abbrev pub items_count : List PrintItem → ℕ
items_count [] = 0
items_count (x ∷ xs) = item_count x + items_count xs

abbrev mutual
  pub statement_count : Statement → ℕ
  statement_count (statement at line form) = 1 + statement_form_count form

  pub statement_form_count : StatementForm → ℕ
  statement_form_count (bind w right) = name_count w + right_side_count right
  statement_form_count (assign w right) = name_count w + right_side_count right
  statement_form_count (assign_cell w index value) =
      name_count w + expression_count index + expression_count value
  statement_form_count (choose arms) = arms_count arms
  statement_form_count (choose_or arms last) = arms_count arms + statements_count last
  statement_form_count (repeat test body) = expression_count test + statements_count body
  statement_form_count (call w args) = name_count w + expressions_count args
  statement_form_count (return None) = 0
  statement_form_count (return (Some x)) = expression_count x
  statement_form_count (fork w args) = name_count w + expressions_count args
  statement_form_count (join handle) = expression_count handle
  statement_form_count (print items) = items_count items
  statement_form_count (assert test) = expression_count test

  pub statements_count : Statements → ℕ
  statements_count no_statements = 0
  statements_count (statements s rest) = statement_count s + statements_count rest

  pub arms_count : Arms → ℕ
  arms_count no_arms = 0
  arms_count (arm test body rest) = expression_count test + statements_count body + arms_count rest

abbrev pub parameters_count : List Parameter → ℕ
parameters_count [] = 0
parameters_count (p ∷ ps) = 1 + name_count p.name + parameters_count ps

abbrev pub by_count : Option PlacedName → ℕ
by_count None = 0
by_count (Some w) = name_count w

abbrev pub declaration_count : Declaration → ℕ
declaration_count (fun w params result body) =
    1 + name_count w + parameters_count params + expression_count body
declaration_count (merge w m j r body) =
    1 + name_count w + name_count m + name_count j + name_count r + expression_count body
declaration_count (shared x) = 1 + name_count x.name + by_count x.by
declaration_count (proc w params result body) =
    1 + name_count w + parameters_count params + statements_count body

abbrev pub declarations_count : List Declaration → ℕ
declarations_count [] = 0
declarations_count (x ∷ xs) = declaration_count x + declarations_count xs

abbrev pub count : ProgramTree → ℕ
count p = declarations_count p.declarations + statements_count p.main

-- Around an expression: how many applications, cells, inputs, picks and unary operators, and how many
-- chains. Each number is the greatest one for an expression in the tree.

abbrev mutual
  pub nodes_around : Expression → ℕ
  nodes_around (placed at s) = nodes_around_part s

  pub nodes_around_part : ExpressionForm → ℕ
  nodes_around_part (cell w index) = 1 + nodes_around index
  nodes_around_part (apply w args) = nodes_around_args args
  nodes_around_part (input word_at index) = 1 + nodes_around index
  nodes_around_part (pick test a c) =
      1 + max (nodes_around test) (max (nodes_around a) (nodes_around c))
  nodes_around_part (unary op part) = 1 + nodes_around part
  nodes_around_part (chain first rest) = max (nodes_around first) (nodes_around_links rest)
  nodes_around_part _ = 0

  pub nodes_around_args : Expressions → ℕ
  nodes_around_args no_expressions = 0
  nodes_around_args (expression x rest) = max (1 + nodes_around x) (nodes_around_args rest)

  pub nodes_around_links : Links → ℕ
  nodes_around_links no_links = 0
  nodes_around_links (link op part rest) = max (nodes_around part) (nodes_around_links rest)

abbrev mutual
  pub chains_around : Expression → ℕ
  chains_around (placed at s) = chains_around_part s

  pub chains_around_part : ExpressionForm → ℕ
  chains_around_part (cell w index) = chains_around index
  chains_around_part (apply w args) = chains_around_args args
  chains_around_part (input word_at index) = chains_around index
  chains_around_part (pick test a c) =
      max (chains_around test) (max (chains_around a) (chains_around c))
  chains_around_part (unary op part) = chains_around part
  chains_around_part (chain first rest) = 1 + max (chains_around first) (chains_around_links rest)
  chains_around_part _ = 0

  pub chains_around_args : Expressions → ℕ
  chains_around_args no_expressions = 0
  chains_around_args (expression x rest) = max (chains_around x) (chains_around_args rest)

  pub chains_around_links : Links → ℕ
  chains_around_links no_links = 0
  chains_around_links (link op part rest) = max (chains_around part) (chains_around_links rest)

-- Forms of names, texts, constants, sizes and chains.

abbrev pub name_formed : PlacedName → Bool
name_formed w = is_name w.text

-- how tightly an operator binds; the operators of one rule of the grammar bind alike
abbrev pub strength : BinaryOp → ℕ
strength b.Mul = 5
strength b.Div = 5
strength b.Rem = 5
strength b.Add = 4
strength b.Sub = 4
strength b.Eq = 3
strength b.Ne = 3
strength b.Lt = 3
strength b.Le = 3
strength b.Gt = 3
strength b.Ge = 3
strength b.And = 2
strength b.Or = 1

abbrev pub all_bind : ℕ → Links → Bool
all_bind n no_links = true
all_bind n (link op part rest) = (strength op == n) && all_bind n rest

-- one comparison stands alone; the other operators come in any number, at least one
abbrev pub is_chain : Links → Bool
is_chain no_links = false
is_chain (link op part no_links) = true
is_chain (link op part rest) =
    (nat_lt 3 (strength op) || nat_lt (strength op) 3) && all_bind (strength op) rest

abbrev mutual
  pub expression_formed : Expression → Bool
  expression_formed (placed at s) = expression_form_formed s

  pub expression_form_formed : ExpressionForm → Bool
  expression_form_formed (int n) = true
  expression_form_formed (bool b) = true
  expression_form_formed no_rev = true
  expression_form_formed (var w) = name_formed w
  expression_form_formed (cell w index) = name_formed w && expression_formed index
  expression_form_formed (apply w args) = name_formed w && expressions_formed args
  expression_form_formed (input word_at index) = expression_formed index
  expression_form_formed (inputs word_at) = true
  expression_form_formed (pick test a c) =
      expression_formed test && expression_formed a && expression_formed c
  expression_form_formed (unary op part) = expression_formed part
  expression_form_formed (chain first rest) =
      is_chain rest && expression_formed first && links_formed rest

  pub expressions_formed : Expressions → Bool
  expressions_formed no_expressions = true
  expressions_formed (expression x rest) = expression_formed x && expressions_formed rest

  pub links_formed : Links → Bool
  links_formed no_links = true
  links_formed (link op part rest) = expression_formed part && links_formed rest

-- An expression is small: its parts have their forms, and no expression lies too deep in it.
abbrev pub expression_small : Expression → Bool
expression_small x =
    expression_formed x && nat_le (nodes_around x) 200 && nat_le (chains_around x) 1005

abbrev pub expressions_small : Expressions → Bool
expressions_small no_expressions = true
expressions_small (expression x rest) = expression_small x && expressions_small rest

abbrev pub right_side_small : RightSide → Bool
right_side_small (plain x) = expression_small x
right_side_small (called at w args) = name_formed w && expressions_small args
right_side_small (forked at w args) = name_formed w && expressions_small args
right_side_small (tried at handle) = expression_small handle

abbrev pub item_small : PrintItem → Bool
item_small (text at bytes) = list_all is_text_byte bytes
item_small (shown x) = expression_small x

abbrev mutual
  pub statement_small : Statement → Bool
  statement_small (statement at line form) = statement_form_small form

  pub statement_form_small : StatementForm → Bool
  statement_form_small (bind w right) = name_formed w && right_side_small right
  statement_form_small (assign w right) = name_formed w && right_side_small right
  statement_form_small (assign_cell w index value) =
      name_formed w && expression_small index && expression_small value
  statement_form_small (choose arms) = arms_small arms
  statement_form_small (choose_or arms last) = arms_small arms && statements_small last
  statement_form_small (repeat test body) = expression_small test && statements_small body
  statement_form_small (call w args) = name_formed w && expressions_small args
  statement_form_small (return None) = true
  statement_form_small (return (Some x)) = expression_small x
  statement_form_small (fork w args) = name_formed w && expressions_small args
  statement_form_small (join handle) = expression_small handle
  statement_form_small (print items) = list_all item_small items
  statement_form_small (assert test) = expression_small test

  pub statements_small : Statements → Bool
  statements_small no_statements = true
  statements_small (statements s rest) = statement_small s && statements_small rest

  pub arms_small : Arms → Bool
  arms_small no_arms = true
  arms_small (arm test body rest) =
      expression_small test && statements_small body && arms_small rest

-- A number of the text has at most this value.
abbrev pub greatest : ℕ
greatest = 9223372036854775807

abbrev pub size_formed : Option ArraySize → Bool
size_formed None = true
size_formed (Some s) = int_below s.cells
  where
    int_below : ℤ → Bool
    int_below (pos n) = nat_le n greatest
    int_below (negsuc n) = false

-- a number with or without a minus sign, a truth value, or `none`
abbrev pub value_formed : Value → Bool
value_formed (v.Int (pos n)) = nat_le n greatest
value_formed (v.Int (negsuc n)) = nat_lt n greatest
value_formed (v.Bool b) = true
value_formed (v.Rev None) = true
value_formed (v.Rev (Some path)) = false

abbrev pub first_formed : Option Constant → Bool
first_formed None = true
first_formed (Some c) = value_formed c.value

abbrev pub by_formed : Option PlacedName → Bool
by_formed None = true
by_formed (Some w) = name_formed w

abbrev pub parameter_formed : Parameter → Bool
parameter_formed p = name_formed p.name

abbrev pub declaration_small : Declaration → Bool
declaration_small (fun w params result body) =
    name_formed w && list_all parameter_formed params && expression_small body
declaration_small (merge w m j r body) =
    name_formed w && name_formed m && name_formed j && name_formed r && expression_small body
declaration_small (shared x) =
    name_formed x.name && by_formed x.by && size_formed x.size && first_formed x.first
declaration_small (proc w params result body) =
    name_formed w && list_all parameter_formed params && statements_small body

pub record IsSmall (p : ProgramTree) : Type 0 where
  pub few : count p < 2 ^ 24
  pub declarations : IsTrue (list_all declaration_small p.declarations)
  pub main : IsTrue (statements_small p.main)

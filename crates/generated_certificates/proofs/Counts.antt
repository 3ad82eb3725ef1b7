-- Code has at most five instructions for each part of the tree, and no more texts and layouts than the tree has parts.
use Rattle.std.proofs.Common.{◌≤◌, ℕ, ◌+◌, ◌*◌, Bool, true, false, Some, None, List, [], ◌∷◌, length, length-append, arith}
use Rattle.rev_syntax.specs.Trees.{Expression, placed, ExpressionForm, Expressions, Links, int, bool, no_rev, var, cell, apply, input, inputs, pick, unary, chain, no_expressions, expression, no_links, link, RightSide, plain, called, forked, tried, PrintItem, text, shown, Statement, statement, StatementForm, bind, assign, assign_cell, choose, choose_or, repeat, call, return, fork, join, print, assert, Statements, no_statements, statements, Arms, no_arms, arm}
use Rattle.rev_syntax.specs.Small.{expression_count, expression_form_count, expressions_count, links_count, right_side_count, items_count, statement_count, statement_form_count, statements_count, arms_count}
use Rattle.rev_syntax.specs.declared.tree.BinaryOp.{BinaryOp}
use Rattle.rev_syntax.specs.declared.tree.BinaryOp.TheVariants as b
use Rattle.code_generation.specs.Numbers.{Numbers}
use Rattle.code_generation.specs.Expressions.{expression_size, form_size, expressions_size, links_size, link_size}
use Rattle.code_generation.specs.Sizes.{right_side_size, items_size, dropped_size, leap_size, statement_size, statement_form_size, statements_size, arms_size, statement_prints, statement_form_prints, statements_prints, arms_prints}
use Rattle.code_generation.specs.Prints.{items_texts, statement_texts, statement_form_texts, statements_texts, arms_texts}

link_few : (op : BinaryOp) (size : ℕ) → link_size op size ≤ size + 3
link_few b.And size = omega arith
link_few b.Or size = omega arith
link_few b.Add size = omega arith
link_few b.Sub size = omega arith
link_few b.Mul size = omega arith
link_few b.Div size = omega arith
link_few b.Rem size = omega arith
link_few b.Eq size = omega arith
link_few b.Ne size = omega arith
link_few b.Lt size = omega arith
link_few b.Le size = omega arith
link_few b.Gt size = omega arith
link_few b.Ge size = omega arith

mutual
  pub size_few : (e : Expression) → expression_size e + 2 ≤ 5 * expression_count e
  size_few (placed p form) = form_few form

  form_few : (form : ExpressionForm) → form_size form + 2 ≤ 5 * (1 + expression_form_count form)
  form_few (int z) = omega arith
  form_few (bool z) = omega arith
  form_few no_rev = omega arith
  form_few (var w) = omega arith
  form_few (inputs p) = omega arith
  form_few (cell w index) = let r = size_few index in omega (arith, r)
  form_few (apply w args) = let r = args_few args in omega (arith, r)
  form_few (input p index) = let r = size_few index in omega (arith, r)
  form_few (pick test x y) = let r = size_few test in let s = size_few x in let u = size_few y in omega (arith, r, s, u)
  form_few (unary op e) = let r = size_few e in omega (arith, r)
  form_few (chain first rest) = let r = size_few first in let s = links_few rest in omega (arith, r, s)

  args_few : (args : Expressions) → expressions_size args ≤ 5 * expressions_count args
  args_few no_expressions = omega arith
  args_few (expression e rest) = let r = size_few e in let s = args_few rest in omega (arith, r, s)

  links_few : (rest : Links) → links_size rest ≤ 5 * links_count rest
  links_few no_links = omega arith
  links_few (link op e rest) =
      let r = size_few e in let s = links_few rest in let u = link_few op (expression_size e) in omega (arith, r, s, u)

right_few : (r : RightSide) → right_side_size r ≤ 5 * right_side_count r + 1
right_few (plain e) = let r = size_few e in omega (arith, r)
right_few (called p w args) = let r = args_few args in omega (arith, r)
right_few (forked p w args) = let r = args_few args in omega (arith, r)
right_few (tried p handle) = let r = size_few handle in omega (arith, r)

items_few : (items : List PrintItem) → items_size items ≤ 5 * items_count items
items_few [] = omega arith
items_few (text p bytes ∷ items) = let r = items_few items in omega (arith, r)
items_few (shown e ∷ items) = let r = size_few e in let s = items_few items in omega (arith, r, s)

dropped_few : (gives : Bool) → dropped_size gives ≤ 1
dropped_few true = omega arith
dropped_few false = omega arith

leap_few : (has_last : Bool) (rest : Arms) → leap_size has_last rest ≤ 1
leap_few true no_arms = omega arith
leap_few false no_arms = omega arith
leap_few true (arm test body rest) = omega arith
leap_few false (arm test body rest) = omega arith

module _ (n : Numbers) where
  mutual
    statement_few : (x : Statement) → statement_size n x ≤ 5 * statement_count x
    statement_few (statement p line form) = let r = statement_form_few form in omega (arith, r)

    statement_form_few : (form : StatementForm) → statement_form_size n form ≤ 5 * statement_form_count form + 4
    statement_form_few (bind w r) = let s = right_few r in omega (arith, s)
    statement_form_few (assign w r) = let s = right_few r in omega (arith, s)
    statement_form_few (assign_cell w index e) = let r = size_few index in let s = size_few e in omega (arith, r, s)
    statement_form_few (choose arms) = let r = arms_few false arms in omega (arith, r)
    statement_form_few (choose_or arms last) =
        let r = arms_few true arms in let s = statements_few last in omega (arith, r, s)
    statement_form_few (repeat test body) = let r = size_few test in let s = statements_few body in omega (arith, r, s)
    statement_form_few (call w args) =
        let r = args_few args in let s = dropped_few (n.gives w.text) in omega (arith, r, s)
    statement_form_few (return None) = omega arith
    statement_form_few (return (Some e)) = let r = size_few e in omega (arith, r)
    statement_form_few (fork w args) = let r = args_few args in omega (arith, r)
    statement_form_few (join e) = let r = size_few e in omega (arith, r)
    statement_form_few (print items) = let r = items_few items in omega (arith, r)
    statement_form_few (assert e) = let r = size_few e in omega (arith, r)

    pub statements_few : (xs : Statements) → statements_size n xs ≤ 5 * statements_count xs
    statements_few no_statements = omega arith
    statements_few (statements x rest) = let r = statement_few x in let s = statements_few rest in omega (arith, r, s)

    arms_few : (has_last : Bool) (arms : Arms) → arms_size n has_last arms ≤ 5 * arms_count arms
    arms_few has_last no_arms = omega arith
    arms_few has_last (arm test body rest) =
        let r = size_few test in
        let s = statements_few body in
        let u = arms_few has_last rest in
        let v = leap_few has_last rest in
        omega (arith, r, s, u, v)

-- ---- prints and texts

mutual
  statement_prints_few : (x : Statement) → statement_prints x ≤ statement_count x
  statement_prints_few (statement p line form) = form_prints_few form

  form_prints_few : (form : StatementForm) → statement_form_prints form ≤ 1 + statement_form_count form
  form_prints_few (print items) = omega arith
  form_prints_few (choose arms) = let r = arms_prints_few arms in omega (arith, r)
  form_prints_few (choose_or arms last) = let r = arms_prints_few arms in let s = prints_few last in omega (arith, r, s)
  form_prints_few (repeat test body) = let r = prints_few body in omega (arith, r)
  form_prints_few (bind w r) = omega arith
  form_prints_few (assign w r) = omega arith
  form_prints_few (assign_cell w index e) = omega arith
  form_prints_few (call w args) = omega arith
  form_prints_few (return e) = omega arith
  form_prints_few (fork w args) = omega arith
  form_prints_few (join e) = omega arith
  form_prints_few (assert e) = omega arith

  pub prints_few : (xs : Statements) → statements_prints xs ≤ statements_count xs
  prints_few no_statements = omega arith
  prints_few (statements x rest) = let r = statement_prints_few x in let s = prints_few rest in omega (arith, r, s)

  arms_prints_few : (arms : Arms) → arms_prints arms ≤ arms_count arms
  arms_prints_few no_arms = omega arith
  arms_prints_few (arm test body rest) = let r = prints_few body in let s = arms_prints_few rest in omega (arith, r, s)

items_texts_few : (items : List PrintItem) → length (items_texts items) ≤ items_count items
items_texts_few [] = omega arith
items_texts_few (text p bytes ∷ items) = let r = items_texts_few items in omega (arith, r)
items_texts_few (shown e ∷ items) = let r = items_texts_few items in omega (arith, r)

mutual
  statement_texts_few : (x : Statement) → length (statement_texts x) ≤ statement_count x
  statement_texts_few (statement p line form) = form_texts_few form

  form_texts_few : (form : StatementForm) → length (statement_form_texts form) ≤ 1 + statement_form_count form
  form_texts_few (print items) = let r = items_texts_few items in omega (arith, r)
  form_texts_few (choose arms) = let r = arms_texts_few arms in omega (arith, r)
  form_texts_few (choose_or arms last) =
      let r = arms_texts_few arms in
      let s = texts_few last in
      let z = length-append (arms_texts arms) (statements_texts last) in
      omega (arith, r, s, z)
  form_texts_few (repeat test body) = let r = texts_few body in omega (arith, r)
  form_texts_few (bind w r) = omega arith
  form_texts_few (assign w r) = omega arith
  form_texts_few (assign_cell w index e) = omega arith
  form_texts_few (call w args) = omega arith
  form_texts_few (return e) = omega arith
  form_texts_few (fork w args) = omega arith
  form_texts_few (join e) = omega arith
  form_texts_few (assert e) = omega arith

  pub texts_few : (xs : Statements) → length (statements_texts xs) ≤ statements_count xs
  texts_few no_statements = omega arith
  texts_few (statements x rest) =
      let r = statement_texts_few x in
      let s = texts_few rest in
      let z = length-append (statement_texts x) (statements_texts rest) in
      omega (arith, r, s, z)

  arms_texts_few : (arms : Arms) → length (arms_texts arms) ≤ arms_count arms
  arms_texts_few no_arms = omega arith
  arms_texts_few (arm test body rest) =
      let r = texts_few body in
      let s = arms_texts_few rest in
      let z = length-append (statements_texts body) (arms_texts rest) in
      omega (arith, r, s, z)

-- How the logic tells program trees apart: each tree has a code, and trees with equal codes are equal.
use Rattle.std.specs.Prelude.{◌≡◌, refl, ℕ, false, nat_eq, List}
use Rattle.std.specs.Coded.{Coded, coded_ℕ, coded_ℤ, coded_bool, coded_list, coded_option}
use Rattle.std.proofs.Common.{ap, arith}
use Rattle.std.proofs.lemmas.Bool.Decides.{nat_tests}
use base.Stored.{Gv, gnil, gnum, gcons}
use Rattle.rev_syntax.specs.contracts.tree.UnaryOp as unary_op
use Rattle.rev_syntax.specs.contracts.tree.BinaryOp as binary_op
use Rattle.rev_syntax.specs.Trees.{PlacedName, Expression, placed, ExpressionForm, int, bool, no_rev, var, cell, apply, input, inputs, pick, unary, chain, Expressions, no_expressions, expression, Links, no_links, link, RightSide, plain, called, forked, tried, PrintItem, text, shown, Statement, statement, StatementForm, bind, assign, assign_cell, choose, choose_or, repeat, call, return, fork, join, print, assert, Statements, no_statements, statements, Arms, no_arms, arm}

-- ---- the parts of a code

abbrev pub head : Gv → Gv
head gnil = gnil
head (gnum n) = gnil
head (gcons a b) = a

abbrev pub tail : Gv → Gv
tail gnil = gnil
tail (gnum n) = gnil
tail (gcons a b) = b

abbrev pub number : Gv → ℕ
number gnil = 0
number (gnum n) = n
number (gcons a b) = 0

-- which form it is of
abbrev pub kind : Gv → ℕ
kind g = number (head g)

-- codes of two forms differ
pub apart : (g h : Gv) → g ≡ h → nat_eq (kind g) (kind h) ≡ false → ⊥
apart g h p other = let e : kind g ≡ kind h = ap kind p in grind (arith, nat_tests)

-- ---- names

abbrev pub coded_name : Coded (List ℕ)
coded_name = coded_list coded_ℕ

pub name_code : PlacedName → Gv
name_code w = gcons (gnum w.at) (coded_name.code w.text)

pub name_inj : (x y : PlacedName) → name_code x ≡ name_code y → x ≡ y
unfolding name_code
name_inj x y p = λ i. record { at = number (head (p i)); text = coded_name.inj x.text y.text (ap tail p) i }

abbrev pub coded_placed_name : Coded PlacedName
coded_placed_name = record { code = name_code; inj = name_inj }

-- ---- expressions

mutual
  pub expression_code : Expression → Gv
  expression_code (placed a b) = gcons (gnum a) (form_code b)

  pub form_code : ExpressionForm → Gv
  form_code (int a) = gcons (gnum 0) (coded_ℤ.code a)
  form_code (bool a) = gcons (gnum 1) (coded_bool.code a)
  form_code no_rev = gcons (gnum 2) gnil
  form_code (var a) = gcons (gnum 3) (name_code a)
  form_code (cell a b) = gcons (gnum 4) (gcons (name_code a) (expression_code b))
  form_code (apply a b) = gcons (gnum 5) (gcons (name_code a) (expressions_code b))
  form_code (input a b) = gcons (gnum 6) (gcons (gnum a) (expression_code b))
  form_code (inputs a) = gcons (gnum 7) (gnum a)
  form_code (pick a b c) = gcons (gnum 8) (gcons (expression_code a) (gcons (expression_code b) (expression_code c)))
  form_code (unary a b) = gcons (gnum 9) (gcons (unary_op.the_row.coded.code a) (expression_code b))
  form_code (chain a b) = gcons (gnum 10) (gcons (expression_code a) (links_code b))

  pub expressions_code : Expressions → Gv
  expressions_code no_expressions = gcons (gnum 0) gnil
  expressions_code (expression a b) = gcons (gnum 1) (gcons (expression_code a) (expressions_code b))

  pub links_code : Links → Gv
  links_code no_links = gcons (gnum 0) gnil
  links_code (link a b c) =
      gcons (gnum 1) (gcons (binary_op.the_row.coded.code a) (gcons (expression_code b) (links_code c)))

mutual
  unfolding expression_code form_code expressions_code links_code

  pub expression_inj : (x y : Expression) → expression_code x ≡ expression_code y → x ≡ y
  expression_inj (placed a b) (placed a' b') p =
      λ i. placed (number (head (p i))) (form_inj b b' (ap (λ (g : Gv). tail g) p) i)

  pub form_inj : (x y : ExpressionForm) → form_code x ≡ form_code y → x ≡ y
  form_inj (int a) (int a') p = λ i. int (coded_ℤ.inj a a' (ap (λ (g : Gv). tail g) p) i)
  form_inj (bool a) (bool a') p = λ i. bool (coded_bool.inj a a' (ap (λ (g : Gv). tail g) p) i)
  form_inj no_rev no_rev p = λ i. no_rev
  form_inj (var a) (var a') p = λ i. var (name_inj a a' (ap (λ (g : Gv). tail g) p) i)
  form_inj (cell a b) (cell a' b') p = λ i. cell (name_inj a a' (ap (λ (g : Gv). head (tail g)) p) i)
      (expression_inj b b' (ap (λ (g : Gv). tail (tail g)) p) i)
  form_inj (apply a b) (apply a' b') p = λ i. apply (name_inj a a' (ap (λ (g : Gv). head (tail g)) p) i)
      (expressions_inj b b' (ap (λ (g : Gv). tail (tail g)) p) i)
  form_inj (input a b) (input a' b') p =
      λ i. input (number (head (tail (p i)))) (expression_inj b b' (ap (λ (g : Gv). tail (tail g)) p) i)
  form_inj (inputs a) (inputs a') p = λ i. inputs (number (tail (p i)))
  form_inj (pick a b c) (pick a' b' c') p = λ i. pick (expression_inj a a' (ap (λ (g : Gv). head (tail g)) p) i)
      (expression_inj b b' (ap (λ (g : Gv). head (tail (tail g))) p) i)
      (expression_inj c c' (ap (λ (g : Gv). tail (tail (tail g))) p) i)
  form_inj (unary a b) (unary a' b') p = λ i. unary
      (unary_op.the_row.coded.inj a a' (ap (λ (g : Gv). head (tail g)) p) i)
      (expression_inj b b' (ap (λ (g : Gv). tail (tail g)) p) i)
  form_inj (chain a b) (chain a' b') p = λ i. chain (expression_inj a a' (ap (λ (g : Gv). head (tail g)) p) i)
      (links_inj b b' (ap (λ (g : Gv). tail (tail g)) p) i)
  form_inj x y p = absurd (apart (form_code x) (form_code y) p refl)

  pub expressions_inj : (x y : Expressions) → expressions_code x ≡ expressions_code y → x ≡ y
  expressions_inj no_expressions no_expressions p = λ i. no_expressions
  expressions_inj (expression a b) (expression a' b') p = λ i. expression
      (expression_inj a a' (ap (λ (g : Gv). head (tail g)) p) i)
      (expressions_inj b b' (ap (λ (g : Gv). tail (tail g)) p) i)
  expressions_inj x y p = absurd (apart (expressions_code x) (expressions_code y) p refl)

  pub links_inj : (x y : Links) → links_code x ≡ links_code y → x ≡ y
  links_inj no_links no_links p = λ i. no_links
  links_inj (link a b c) (link a' b' c') p = λ i. link
      (binary_op.the_row.coded.inj a a' (ap (λ (g : Gv). head (tail g)) p) i)
      (expression_inj b b' (ap (λ (g : Gv). head (tail (tail g))) p) i)
      (links_inj c c' (ap (λ (g : Gv). tail (tail (tail g))) p) i)
  links_inj x y p = absurd (apart (links_code x) (links_code y) p refl)

abbrev pub coded_expression : Coded Expression
coded_expression = record { code = expression_code; inj = expression_inj }

-- ---- statements

pub right_code : RightSide → Gv
right_code (plain a) = gcons (gnum 0) (expression_code a)
right_code (called a b c) = gcons (gnum 1) (gcons (gnum a) (gcons (name_code b) (expressions_code c)))
right_code (forked a b c) = gcons (gnum 2) (gcons (gnum a) (gcons (name_code b) (expressions_code c)))
right_code (tried a b) = gcons (gnum 3) (gcons (gnum a) (expression_code b))

pub right_inj : (x y : RightSide) → right_code x ≡ right_code y → x ≡ y
unfolding right_code
right_inj (plain a) (plain a') p = λ i. plain (expression_inj a a' (ap (λ (g : Gv). tail g) p) i)
right_inj (called a b c) (called a' b' c') p = λ i. called (number (head (tail (p i))))
    (name_inj b b' (ap (λ (g : Gv). head (tail (tail g))) p) i)
    (expressions_inj c c' (ap (λ (g : Gv). tail (tail (tail g))) p) i)
right_inj (forked a b c) (forked a' b' c') p = λ i. forked (number (head (tail (p i))))
    (name_inj b b' (ap (λ (g : Gv). head (tail (tail g))) p) i)
    (expressions_inj c c' (ap (λ (g : Gv). tail (tail (tail g))) p) i)
right_inj (tried a b) (tried a' b') p =
    λ i. tried (number (head (tail (p i)))) (expression_inj b b' (ap (λ (g : Gv). tail (tail g)) p) i)
right_inj x y p = absurd (apart (right_code x) (right_code y) p refl)

pub print_item_code : PrintItem → Gv
print_item_code (text a b) = gcons (gnum 0) (gcons (gnum a) (coded_name.code b))
print_item_code (shown a) = gcons (gnum 1) (expression_code a)

pub print_item_inj : (x y : PrintItem) → print_item_code x ≡ print_item_code y → x ≡ y
unfolding print_item_code
print_item_inj (text a b) (text a' b') p =
    λ i. text (number (head (tail (p i)))) (coded_name.inj b b' (ap (λ (g : Gv). tail (tail g)) p) i)
print_item_inj (shown a) (shown a') p = λ i. shown (expression_inj a a' (ap (λ (g : Gv). tail g) p) i)
print_item_inj x y p = absurd (apart (print_item_code x) (print_item_code y) p refl)

abbrev pub coded_print_item : Coded PrintItem
coded_print_item = record { code = print_item_code; inj = print_item_inj }

mutual
  pub statement_code : Statement → Gv
  statement_code (statement a b c) = gcons (gnum a) (gcons (gnum b) (statement_form_code c))

  pub statement_form_code : StatementForm → Gv
  statement_form_code (bind a b) = gcons (gnum 0) (gcons (name_code a) (right_code b))
  statement_form_code (assign a b) = gcons (gnum 1) (gcons (name_code a) (right_code b))
  statement_form_code (assign_cell a b c) =
      gcons (gnum 2) (gcons (name_code a) (gcons (expression_code b) (expression_code c)))
  statement_form_code (choose a) = gcons (gnum 3) (arms_code a)
  statement_form_code (choose_or a b) = gcons (gnum 4) (gcons (arms_code a) (statements_code b))
  statement_form_code (repeat a b) = gcons (gnum 5) (gcons (expression_code a) (statements_code b))
  statement_form_code (call a b) = gcons (gnum 6) (gcons (name_code a) (expressions_code b))
  statement_form_code (return a) = gcons (gnum 7) ((coded_option coded_expression).code a)
  statement_form_code (fork a b) = gcons (gnum 8) (gcons (name_code a) (expressions_code b))
  statement_form_code (join a) = gcons (gnum 9) (expression_code a)
  statement_form_code (print a) = gcons (gnum 10) ((coded_list coded_print_item).code a)
  statement_form_code (assert a) = gcons (gnum 11) (expression_code a)

  pub statements_code : Statements → Gv
  statements_code no_statements = gcons (gnum 0) gnil
  statements_code (statements a b) = gcons (gnum 1) (gcons (statement_code a) (statements_code b))

  pub arms_code : Arms → Gv
  arms_code no_arms = gcons (gnum 0) gnil
  arms_code (arm a b c) = gcons (gnum 1) (gcons (expression_code a) (gcons (statements_code b) (arms_code c)))

mutual
  unfolding statement_code statement_form_code statements_code arms_code

  pub statement_inj : (x y : Statement) → statement_code x ≡ statement_code y → x ≡ y
  statement_inj (statement a b c) (statement a' b' c') p = λ i. statement (number (head (p i)))
      (number (head (tail (p i)))) (statement_form_inj c c' (ap (λ (g : Gv). tail (tail g)) p) i)

  pub statement_form_inj : (x y : StatementForm) → statement_form_code x ≡ statement_form_code y → x ≡ y
  statement_form_inj (bind a b) (bind a' b') p = λ i. bind (name_inj a a' (ap (λ (g : Gv). head (tail g)) p) i)
      (right_inj b b' (ap (λ (g : Gv). tail (tail g)) p) i)
  statement_form_inj (assign a b) (assign a' b') p = λ i. assign (name_inj a a' (ap (λ (g : Gv). head (tail g)) p) i)
      (right_inj b b' (ap (λ (g : Gv). tail (tail g)) p) i)
  statement_form_inj (assign_cell a b c) (assign_cell a' b' c') p = λ i. assign_cell
      (name_inj a a' (ap (λ (g : Gv). head (tail g)) p) i)
      (expression_inj b b' (ap (λ (g : Gv). head (tail (tail g))) p) i)
      (expression_inj c c' (ap (λ (g : Gv). tail (tail (tail g))) p) i)
  statement_form_inj (choose a) (choose a') p = λ i. choose (arms_inj a a' (ap (λ (g : Gv). tail g) p) i)
  statement_form_inj (choose_or a b) (choose_or a' b') p = λ i. choose_or
      (arms_inj a a' (ap (λ (g : Gv). head (tail g)) p) i) (statements_inj b b' (ap (λ (g : Gv). tail (tail g)) p) i)
  statement_form_inj (repeat a b) (repeat a' b') p = λ i. repeat
      (expression_inj a a' (ap (λ (g : Gv). head (tail g)) p) i)
      (statements_inj b b' (ap (λ (g : Gv). tail (tail g)) p) i)
  statement_form_inj (call a b) (call a' b') p = λ i. call (name_inj a a' (ap (λ (g : Gv). head (tail g)) p) i)
      (expressions_inj b b' (ap (λ (g : Gv). tail (tail g)) p) i)
  statement_form_inj (return a) (return a') p =
      λ i. return ((coded_option coded_expression).inj a a' (ap (λ (g : Gv). tail g) p) i)
  statement_form_inj (fork a b) (fork a' b') p = λ i. fork (name_inj a a' (ap (λ (g : Gv). head (tail g)) p) i)
      (expressions_inj b b' (ap (λ (g : Gv). tail (tail g)) p) i)
  statement_form_inj (join a) (join a') p = λ i. join (expression_inj a a' (ap (λ (g : Gv). tail g) p) i)
  statement_form_inj (print a) (print a') p =
      λ i. print ((coded_list coded_print_item).inj a a' (ap (λ (g : Gv). tail g) p) i)
  statement_form_inj (assert a) (assert a') p = λ i. assert (expression_inj a a' (ap (λ (g : Gv). tail g) p) i)
  statement_form_inj x y p = absurd (apart (statement_form_code x) (statement_form_code y) p refl)

  pub statements_inj : (x y : Statements) → statements_code x ≡ statements_code y → x ≡ y
  statements_inj no_statements no_statements p = λ i. no_statements
  statements_inj (statements a b) (statements a' b') p = λ i. statements
      (statement_inj a a' (ap (λ (g : Gv). head (tail g)) p) i)
      (statements_inj b b' (ap (λ (g : Gv). tail (tail g)) p) i)
  statements_inj x y p = absurd (apart (statements_code x) (statements_code y) p refl)

  pub arms_inj : (x y : Arms) → arms_code x ≡ arms_code y → x ≡ y
  arms_inj no_arms no_arms p = λ i. no_arms
  arms_inj (arm a b c) (arm a' b' c') p = λ i. arm (expression_inj a a' (ap (λ (g : Gv). head (tail g)) p) i)
      (statements_inj b b' (ap (λ (g : Gv). head (tail (tail g))) p) i)
      (arms_inj c c' (ap (λ (g : Gv). tail (tail (tail g))) p) i)
  arms_inj x y p = absurd (apart (arms_code x) (arms_code y) p refl)

abbrev pub coded_statements : Coded Statements
coded_statements = record { code = statements_code; inj = statements_inj }

-- How many instructions statements have, and how many prints.
use Rattle.std.specs.Prelude.{ℕ, ◌+◌, Bool, true, false, if◌then◌else◌, Option, Some, None, List, [], ◌∷◌}
use Rattle.rev_syntax.specs.Trees.{Expression, RightSide, plain, called, forked, tried, PrintItem, text, shown, Statement, statement, StatementForm, bind, assign, assign_cell, choose, choose_or, repeat, call, return, fork, join, print, assert, Statements, no_statements, statements, Arms, no_arms, arm}
use Rattle.code_generation.specs.Numbers.{Numbers}
use Rattle.code_generation.specs.Expressions.{expression_size, expressions_size}

-- ---- instructions

abbrev pub right_side_size : RightSide → ℕ
right_side_size (plain e) = expression_size e
right_side_size (called p w args) = expressions_size args + 1
right_side_size (forked p w args) = expressions_size args + 1
right_side_size (tried p handle) = expression_size handle + 1

abbrev pub items_size : List PrintItem → ℕ
items_size [] = 0
items_size (text p bytes ∷ items) = items_size items
items_size (shown e ∷ items) = expression_size e + items_size items

abbrev pub returned_size : Option Expression → ℕ
returned_size None = 1
returned_size (Some e) = expression_size e + 1

-- of the Pop behind a call that leaves a result
abbrev pub dropped_size : Bool → ℕ
dropped_size gives = if gives then 1 else 0

-- of the jump to the end behind the block of an arm, which the last part of an `if` lacks
abbrev pub leap_size : (has_last : Bool) → Arms → ℕ
leap_size false no_arms = 0
leap_size true no_arms = 1
leap_size has_last (arm test body rest) = 1

abbrev mutual
  pub statement_size : Numbers → Statement → ℕ
  statement_size n (statement p line form) = 1 + statement_form_size n form

  pub statement_form_size : Numbers → StatementForm → ℕ
  statement_form_size n (bind w r) = right_side_size r + 1
  statement_form_size n (assign w r) = right_side_size r + 1
  statement_form_size n (assign_cell w index e) = expression_size index + 1 + expression_size e + 1
  statement_form_size n (choose arms) = arms_size n false arms
  statement_form_size n (choose_or arms last) = arms_size n true arms + statements_size n last
  statement_form_size n (repeat test body) = expression_size test + 1 + statements_size n body + 1
  statement_form_size n (call w args) = expressions_size args + 1 + dropped_size (n.gives w.text)
  statement_form_size n (return e) = returned_size e
  statement_form_size n (fork w args) = expressions_size args + 2
  statement_form_size n (join e) = expression_size e + 1
  statement_form_size n (print items) = items_size items + 1
  statement_form_size n (assert e) = expression_size e + 1

  pub statements_size : Numbers → Statements → ℕ
  statements_size n no_statements = 0
  statements_size n (statements s rest) = statement_size n s + statements_size n rest

  -- of the arms of an `if`, and whether it has a last `else`
  pub arms_size : Numbers → (has_last : Bool) → Arms → ℕ
  arms_size n has_last no_arms = 0
  arms_size n has_last (arm test body rest) =
      expression_size test + 1 + statements_size n body + leap_size has_last rest + arms_size n has_last rest

-- ---- prints

abbrev mutual
  pub statement_prints : Statement → ℕ
  statement_prints (statement p line form) = statement_form_prints form

  pub statement_form_prints : StatementForm → ℕ
  statement_form_prints (print items) = 1
  statement_form_prints (choose arms) = arms_prints arms
  statement_form_prints (choose_or arms last) = arms_prints arms + statements_prints last
  statement_form_prints (repeat test body) = statements_prints body
  statement_form_prints (bind w r) = 0
  statement_form_prints (assign w r) = 0
  statement_form_prints (assign_cell w index e) = 0
  statement_form_prints (call w args) = 0
  statement_form_prints (return e) = 0
  statement_form_prints (fork w args) = 0
  statement_form_prints (join e) = 0
  statement_form_prints (assert e) = 0

  pub statements_prints : Statements → ℕ
  statements_prints no_statements = 0
  statements_prints (statements s rest) = statement_prints s + statements_prints rest

  pub arms_prints : Arms → ℕ
  arms_prints no_arms = 0
  arms_prints (arm test body rest) = statements_prints body + arms_prints rest

-- The tables that statements fill: the kinds of the `let`s, the texts and the layouts of the prints. Each text stands
-- once for each use, in order, and so do the layouts.
use Rattle.std.specs.Prelude.{ℕ, suc, ◌+◌, Option, Some, List, [], ◌∷◌, ◌++◌, length}
use Rattle.rev_num.specs.declared.value.ValueKind.{ValueKind}
use Rattle.rev_num.specs.declared.value.ValueKind.TheVariants as k
use Rattle.rev_syntax.specs.Trees.{PrintItem, text, shown, Statement, statement, StatementForm, bind, assign, assign_cell, choose, choose_or, repeat, call, return, fork, join, print, assert, Statements, no_statements, statements, Arms, no_arms, arm}
use Rattle.typed_programs.specs.Kinds.{Names, Locals, kind_in, right_side_kind}
use Rattle.typed_programs.specs.Scopes.{locals_after}
use Rattle.rev_code.specs.declared.code.LayoutItem.{LayoutItem}
use Rattle.rev_code.specs.declared.code.LayoutItem.TheVariants as item
use Rattle.code_rules.specs.Shapes.{kind_or_int}

-- ---- kinds of locals: a `let` of a program that keeps the rules has a kind

abbrev mutual
  pub statement_kinds : Names → Locals → Statement → List ValueKind
  statement_kinds c l (statement p line form) = statement_form_kinds c l form

  pub statement_form_kinds : Names → Locals → StatementForm → List ValueKind
  statement_form_kinds c l (bind w r) = kind_or_int (right_side_kind c l r) ∷ []
  statement_form_kinds c l (choose arms) = arms_kinds c l arms
  statement_form_kinds c l (choose_or arms last) = arms_kinds c l arms ++ statements_kinds c l last
  statement_form_kinds c l (repeat test body) = statements_kinds c l body
  statement_form_kinds c l (assign w r) = []
  statement_form_kinds c l (assign_cell w index e) = []
  statement_form_kinds c l (call w args) = []
  statement_form_kinds c l (return e) = []
  statement_form_kinds c l (fork w args) = []
  statement_form_kinds c l (join e) = []
  statement_form_kinds c l (print items) = []
  statement_form_kinds c l (assert e) = []

  pub statements_kinds : Names → Locals → Statements → List ValueKind
  statements_kinds c l no_statements = []
  statements_kinds c l (statements s rest) = statement_kinds c l s ++ statements_kinds c (locals_after c l s) rest

  pub arms_kinds : Names → Locals → Arms → List ValueKind
  arms_kinds c l no_arms = []
  arms_kinds c l (arm test body rest) = statements_kinds c l body ++ arms_kinds c l rest

-- ---- texts

abbrev pub items_texts : List PrintItem → List (List ℕ)
items_texts [] = []
items_texts (text p bytes ∷ items) = bytes ∷ items_texts items
items_texts (shown e ∷ items) = items_texts items

abbrev mutual
  pub statement_texts : Statement → List (List ℕ)
  statement_texts (statement p line form) = statement_form_texts form

  pub statement_form_texts : StatementForm → List (List ℕ)
  statement_form_texts (print items) = items_texts items
  statement_form_texts (choose arms) = arms_texts arms
  statement_form_texts (choose_or arms last) = arms_texts arms ++ statements_texts last
  statement_form_texts (repeat test body) = statements_texts body
  statement_form_texts (bind w r) = []
  statement_form_texts (assign w r) = []
  statement_form_texts (assign_cell w index e) = []
  statement_form_texts (call w args) = []
  statement_form_texts (return e) = []
  statement_form_texts (fork w args) = []
  statement_form_texts (join e) = []
  statement_form_texts (assert e) = []

  pub statements_texts : Statements → List (List ℕ)
  statements_texts no_statements = []
  statements_texts (statements s rest) = statement_texts s ++ statements_texts rest

  pub arms_texts : Arms → List (List ℕ)
  arms_texts no_arms = []
  arms_texts (arm test body rest) = statements_texts body ++ arms_texts rest

-- ---- layouts

-- handles are never printed
abbrev pub value_item : Option ValueKind → LayoutItem
value_item (Some k.Bool) = item.Bool
value_item _ = item.Int

-- the layout of a print, whose first text has this number
abbrev pub layout_of : Names → Locals → (texts : ℕ) → List PrintItem → List LayoutItem
layout_of c l texts [] = []
layout_of c l texts (text p bytes ∷ items) = item.Text texts ∷ layout_of c l (suc texts) items
layout_of c l texts (shown e ∷ items) = value_item (kind_in c l e) ∷ layout_of c l texts items

-- the layouts of statements, of which the first text has this number
abbrev mutual
  pub statement_layouts : Names → Locals → (texts : ℕ) → Statement → List (List LayoutItem)
  statement_layouts c l texts (statement p line form) = statement_form_layouts c l texts form

  pub statement_form_layouts : Names → Locals → (texts : ℕ) → StatementForm → List (List LayoutItem)
  statement_form_layouts c l texts (print items) = layout_of c l texts items ∷ []
  statement_form_layouts c l texts (choose arms) = arms_layouts c l texts arms
  statement_form_layouts c l texts (choose_or arms last) =
      arms_layouts c l texts arms ++ statements_layouts c l (texts + length (arms_texts arms)) last
  statement_form_layouts c l texts (repeat test body) = statements_layouts c l texts body
  statement_form_layouts c l texts (bind w r) = []
  statement_form_layouts c l texts (assign w r) = []
  statement_form_layouts c l texts (assign_cell w index e) = []
  statement_form_layouts c l texts (call w args) = []
  statement_form_layouts c l texts (return e) = []
  statement_form_layouts c l texts (fork w args) = []
  statement_form_layouts c l texts (join e) = []
  statement_form_layouts c l texts (assert e) = []

  pub statements_layouts : Names → Locals → (texts : ℕ) → Statements → List (List LayoutItem)
  statements_layouts c l texts no_statements = []
  statements_layouts c l texts (statements s rest) =
      statement_layouts c l texts s
      ++ statements_layouts c (locals_after c l s) (texts + length (statement_texts s)) rest

  pub arms_layouts : Names → Locals → (texts : ℕ) → Arms → List (List LayoutItem)
  arms_layouts c l texts no_arms = []
  arms_layouts c l texts (arm test body rest) =
      statements_layouts c l texts body ++ arms_layouts c l (texts + length (statements_texts body)) rest

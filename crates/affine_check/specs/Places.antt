-- The places where a program breaks the affine rule, as lists.
--
-- `copies`, `stores` and `loop_uses` are the places in statements with names in scope;
-- those of second uses are given by
-- `twice` (in `SecondUses`). `places` is the list of a program's places for each breach,
-- `breakages` that of all of them, and `first_breakage` the first.
use Rattle.std.specs.Prelude.{ℕ, List, [], ◌∷◌, ◌++◌, Option, Some, None}
use Rattle.rev_syntax.specs.Trees.{PlacedName, Expression, placed, ExpressionForm, int, bool, no_rev, var, cell, apply, input, inputs, pick, unary, chain, Expressions, no_expressions, expression, Links, no_links, link, RightSide, plain, called, forked, tried, PrintItem, text, shown, Statement, statement, StatementForm, bind, assign, assign_cell, choose, choose_or, repeat, call, return, fork, join, print, assert, Statements, no_statements, statements, Arms, no_arms, arm, Declaration, fun, merge, shared, proc, ProgramTree}
use Rattle.typed_programs.specs.Least.{least}
use Rattle.name_tables.specs.Table.{find}
use Rattle.typed_programs.specs.declared.names.Holder.{Holder}
use Rattle.typed_programs.specs.Kinds.{Names, Locals}
use Rattle.typed_programs.specs.Scopes.{locals_after, outside, with_params}
use Rattle.affine_check.specs.Affine.{Breach, Breakage, number, copied, stored, used_twice, in_loop}
use Rattle.affine_check.specs.SecondUses.{if_rev, twice}

-- behind an assignment to this shared variable, if it is of kind rev
abbrev pub if_stores : Option Holder → List ℕ → List ℕ
if_stores None ps = []
if_stores (Some h) ps = if_rev (Some (Some h.kind)) ps

-- the places of the names of rev locals in an expression
abbrev mutual
  pub names_in : Locals → Expression → List ℕ
  names_in l (placed at s) = expression_form_names l s

  pub expression_form_names : Locals → ExpressionForm → List ℕ
  expression_form_names l (int z) = []
  expression_form_names l (bool x) = []
  expression_form_names l no_rev = []
  expression_form_names l (var w) = if_rev (find w.text l) (w.at ∷ [])
  expression_form_names l (cell w index) = names_in l index
  expression_form_names l (apply w args) = expressions_names l args
  expression_form_names l (input at index) = names_in l index
  expression_form_names l (inputs at) = []
  expression_form_names l (pick test x y) = names_in l test ++ (names_in l x ++ names_in l y)
  expression_form_names l (unary op e) = names_in l e
  expression_form_names l (chain first rest) = names_in l first ++ links_names l rest

  pub expressions_names : Locals → Expressions → List ℕ
  expressions_names l no_expressions = []
  expressions_names l (expression x xs) = names_in l x ++ expressions_names l xs

  pub links_names : Locals → Links → List ℕ
  links_names l no_links = []
  links_names l (link op x rest) = names_in l x ++ links_names l rest

-- of those in a part of a `pick`
abbrev mutual
  pub pick_names : Locals → Expression → List ℕ
  pick_names l (placed at s) = expression_form_pick_names l s

  pub expression_form_pick_names : Locals → ExpressionForm → List ℕ
  expression_form_pick_names l (int z) = []
  expression_form_pick_names l (bool x) = []
  expression_form_pick_names l no_rev = []
  expression_form_pick_names l (var w) = []
  expression_form_pick_names l (cell w index) = pick_names l index
  expression_form_pick_names l (apply w args) = expressions_pick_names l args
  expression_form_pick_names l (input at index) = pick_names l index
  expression_form_pick_names l (inputs at) = []
  expression_form_pick_names l (pick test x y) = names_in l test ++ (names_in l x ++ names_in l y)
  expression_form_pick_names l (unary op e) = pick_names l e
  expression_form_pick_names l (chain first rest) = pick_names l first ++ links_pick_names l rest

  pub expressions_pick_names : Locals → Expressions → List ℕ
  expressions_pick_names l no_expressions = []
  expressions_pick_names l (expression x xs) = pick_names l x ++ expressions_pick_names l xs

  pub links_pick_names : Locals → Links → List ℕ
  links_pick_names l no_links = []
  links_pick_names l (link op x rest) = pick_names l x ++ links_pick_names l rest

-- of copies in parts of a statement
abbrev pub right_side_copies : Locals → RightSide → List ℕ
right_side_copies l (plain e) = names_in l e
right_side_copies l (called at w args) = expressions_pick_names l args
right_side_copies l (forked at w args) = expressions_pick_names l args
right_side_copies l (tried at handle) = pick_names l handle

abbrev pub items_copies : Locals → List PrintItem → List ℕ
items_copies l [] = []
items_copies l (text at bytes ∷ items) = items_copies l items
items_copies l (shown e ∷ items) = pick_names l e ++ items_copies l items

abbrev pub value_copies : Locals → Option Expression → List ℕ
value_copies l None = []
value_copies l (Some e) = pick_names l e

-- of copies in statements
abbrev mutual
  pub copies : Names → Locals → Statements → List ℕ
  copies c l no_statements = []
  copies c l (statements x rest) = statement_copies c l x ++ copies c (locals_after c l x) rest

  pub statement_copies : Names → Locals → Statement → List ℕ
  statement_copies c l (statement at line form) = statement_form_copies c l form

  pub statement_form_copies : Names → Locals → StatementForm → List ℕ
  statement_form_copies c l (bind w r) = right_side_copies l r
  statement_form_copies c l (assign w r) = right_side_copies l r
  statement_form_copies c l (assign_cell w index e) = pick_names l index ++ pick_names l e
  statement_form_copies c l (choose arms) = arms_copies c l arms
  statement_form_copies c l (choose_or arms last) = arms_copies c l arms ++ copies c l last
  statement_form_copies c l (repeat test body) = pick_names l test ++ copies c l body
  statement_form_copies c l (call w args) = expressions_pick_names l args
  statement_form_copies c l (return e) = value_copies l e
  statement_form_copies c l (fork w args) = expressions_pick_names l args
  statement_form_copies c l (join handle) = pick_names l handle
  statement_form_copies c l (print items) = items_copies l items
  statement_form_copies c l (assert test) = pick_names l test

  pub arms_copies : Names → Locals → Arms → List ℕ
  arms_copies c l no_arms = []
  arms_copies c l (arm test body rest) = pick_names l test ++ (copies c l body ++ arms_copies c l rest)

-- of a left side that stores a rev
abbrev pub name_stores : Names → PlacedName → List ℕ
name_stores c w = if_stores (c.shared w.text) (w.at ∷ [])

-- of stores in statements
abbrev mutual
  pub stores : Names → Statements → List ℕ
  stores c no_statements = []
  stores c (statements x rest) = statement_stores c x ++ stores c rest

  pub statement_stores : Names → Statement → List ℕ
  statement_stores c (statement at line form) = statement_form_stores c form

  pub statement_form_stores : Names → StatementForm → List ℕ
  statement_form_stores c (bind w r) = []
  statement_form_stores c (assign w r) = name_stores c w
  statement_form_stores c (assign_cell w index e) = name_stores c w
  statement_form_stores c (choose arms) = arms_stores c arms
  statement_form_stores c (choose_or arms last) = arms_stores c arms ++ stores c last
  statement_form_stores c (repeat test body) = stores c body
  statement_form_stores c (call w args) = []
  statement_form_stores c (return e) = []
  statement_form_stores c (fork w args) = []
  statement_form_stores c (join handle) = []
  statement_form_stores c (print items) = []
  statement_form_stores c (assert test) = []

  pub arms_stores : Names → Arms → List ℕ
  arms_stores c no_arms = []
  arms_stores c (arm test body rest) = stores c body ++ arms_stores c rest

-- of uses of locals that are rev with these in scope
abbrev pub use_places : Locals → Expression → List ℕ
use_places o (placed at (var w)) = if_rev (find w.text o) (w.at ∷ [])
use_places o (placed at (int z)) = []
use_places o (placed at (bool z)) = []
use_places o (placed at no_rev) = []
use_places o (placed at (cell w index)) = []
use_places o (placed at (apply w args)) = []
use_places o (placed at (input i index)) = []
use_places o (placed at (inputs i)) = []
use_places o (placed at (pick test x y)) = []
use_places o (placed at (unary op e)) = []
use_places o (placed at (chain first rest)) = []

abbrev pub uses_places : Locals → Expressions → List ℕ
uses_places o no_expressions = []
uses_places o (expression x xs) = use_places o x ++ uses_places o xs

abbrev pub right_side_use_places : Locals → RightSide → List ℕ
right_side_use_places o (plain e) = []
right_side_use_places o (called at w args) = uses_places o args
right_side_use_places o (forked at w args) = uses_places o args
right_side_use_places o (tried at handle) = use_places o handle

abbrev pub value_use_places : Locals → Option Expression → List ℕ
value_use_places o None = []
value_use_places o (Some e) = use_places o e

-- of such uses in statements
abbrev mutual
  pub outer_uses : Locals → Statements → List ℕ
  outer_uses o no_statements = []
  outer_uses o (statements x rest) = statement_outer_uses o x ++ outer_uses o rest

  pub statement_outer_uses : Locals → Statement → List ℕ
  statement_outer_uses o (statement at line form) = statement_form_outer_uses o form

  pub statement_form_outer_uses : Locals → StatementForm → List ℕ
  statement_form_outer_uses o (bind w r) = right_side_use_places o r
  statement_form_outer_uses o (assign w r) = right_side_use_places o r
  statement_form_outer_uses o (assign_cell w index e) = []
  statement_form_outer_uses o (choose arms) = arms_outer_uses o arms
  statement_form_outer_uses o (choose_or arms last) = arms_outer_uses o arms ++ outer_uses o last
  statement_form_outer_uses o (repeat test body) = outer_uses o body
  statement_form_outer_uses o (call w args) = uses_places o args
  statement_form_outer_uses o (return e) = value_use_places o e
  statement_form_outer_uses o (fork w args) = uses_places o args
  statement_form_outer_uses o (join handle) = use_places o handle
  statement_form_outer_uses o (print items) = []
  statement_form_outer_uses o (assert test) = []

  pub arms_outer_uses : Locals → Arms → List ℕ
  arms_outer_uses o no_arms = []
  arms_outer_uses o (arm test body rest) = outer_uses o body ++ arms_outer_uses o rest

-- of uses in a `while` body of rev locals that are in scope before it
abbrev mutual
  pub loop_uses : Names → Locals → Statements → List ℕ
  loop_uses c l no_statements = []
  loop_uses c l (statements x rest) = statement_loop_uses c l x ++ loop_uses c (locals_after c l x) rest

  pub statement_loop_uses : Names → Locals → Statement → List ℕ
  statement_loop_uses c l (statement at line form) = statement_form_loop_uses c l form

  pub statement_form_loop_uses : Names → Locals → StatementForm → List ℕ
  statement_form_loop_uses c l (bind w r) = []
  statement_form_loop_uses c l (assign w r) = []
  statement_form_loop_uses c l (assign_cell w index e) = []
  statement_form_loop_uses c l (choose arms) = arms_loop_uses c l arms
  statement_form_loop_uses c l (choose_or arms last) = arms_loop_uses c l arms ++ loop_uses c l last
  statement_form_loop_uses c l (repeat test body) = outer_uses l body ++ loop_uses c l body
  statement_form_loop_uses c l (call w args) = []
  statement_form_loop_uses c l (return e) = []
  statement_form_loop_uses c l (fork w args) = []
  statement_form_loop_uses c l (join handle) = []
  statement_form_loop_uses c l (print items) = []
  statement_form_loop_uses c l (assert test) = []

  pub arms_loop_uses : Names → Locals → Arms → List ℕ
  arms_loop_uses c l no_arms = []
  arms_loop_uses c l (arm test body rest) = loop_uses c l body ++ arms_loop_uses c l rest

-- ---- programs

abbrev pub body_places : Names → Locals → Statements → Breach → List ℕ
body_places c l body copied = copies c l body
body_places c l body stored = stores c body
body_places c l body used_twice = twice c l body (λ n. [])
body_places c l body in_loop = loop_uses c l body

abbrev pub declarations_places : Names → List Declaration → Breach → List ℕ
declarations_places c [] b = []
declarations_places c (fun w ps r body ∷ es) b = declarations_places c es b
declarations_places c (merge w m j r body ∷ es) b = declarations_places c es b
declarations_places c (shared x ∷ es) b = declarations_places c es b
declarations_places c (proc w ps r body ∷ es) b = body_places c (with_params [] ps) body b ++ declarations_places c es b

-- the places where the program breaks the rule so
abbrev pub places : ProgramTree → Breach → List ℕ
places p b = declarations_places (outside p.declarations) p.declarations b ++ body_places (outside p.declarations) []
    p.main b

-- ---- the first place

abbrev pub at_places : Breach → List ℕ → List Breakage
at_places b [] = []
at_places b (at ∷ ps) = record { at = at; how = b } ∷ at_places b ps

-- all that the program breaks
abbrev pub breakages : ProgramTree → List Breakage
breakages p =
    at_places copied (places p copied)
    ++ (at_places stored (places p stored)
    ++ (at_places used_twice (places p used_twice) ++ at_places in_loop (places p in_loop)))

-- what is at the least place, and there of the least number
abbrev pub first_breakage : ProgramTree → Option Breakage
first_breakage p = least (λ f. f.at) (λ f. number f.how) (breakages p)

-- The lists of places have each place where the rule is broken, and, of a typed program, no other.
use Rattle.std.proofs.Common.{◌≡◌, ◌∙◌, ◌⊎◌, inl, inr, ℕ, List, [], ◌∷◌, ◌++◌, Option, Some, None, refl, sym, ap, subst}
use Rattle.rev_num.specs.declared.value.ValueKind.{ValueKind}
use Rattle.rev_num.specs.declared.value.ValueKind.TheVariants as k
use Rattle.rev_syntax.specs.Trees.{PlacedName, Expression, placed, ExpressionForm, int, bool, no_rev, var, cell, apply, input, inputs, pick, unary, chain, Expressions, no_expressions, expression, Links, no_links, link, RightSide, plain, called, forked, tried, PrintItem, text, shown, Statement, statement, StatementForm, bind, assign, assign_cell, choose, choose_or, repeat, call, return, fork, join, print, assert, Statements, no_statements, statements, Arms, no_arms, arm, Declaration, fun, merge, shared, proc, ProgramTree}
use Rattle.name_tables.specs.Table.{find, added}
use Rattle.typed_programs.specs.declared.names.Holder.{Holder}
use Rattle.typed_programs.specs.Kinds.{Names, Locals}
use Rattle.typed_programs.specs.Least.{Among}
use Rattle.typed_programs.specs.Scopes.{locals_after, outside, with_params, within}
use Rattle.typed_programs.specs.Judgement.{StatementTyped, StatementFormTyped, StatementsTyped, ArmsTyped, DeclarationsTyped, ProgramTyped}
use Rattle.typed_programs.proofs.Scopes.{right_side_is}
use Rattle.affine_check.specs.Affine.{NameIn, ExpressionFormNameIn, NamesIn, LinksNameIn, PickIn, ExpressionFormPickIn, PicksIn, LinksPickIn, RightSideCopied, ItemsCopied, ValueCopied, Behind, Copied, StatementCopied, StatementFormCopied, ArmsCopied, StoresAt, Stored, StatementStored, StatementFormStored, ArmsStored, UseAt, UsesAt, RightSideUsesAt, ValueUsesAt, OuterUse, StatementOuterUse, StatementFormOuterUse, ArmsOuterUse, InLoop, StatementInLoop, StatementFormInLoop, ArmsInLoop, Breach, copied, stored, used_twice, in_loop, BodyBreaks, DeclarationsBreak, Breaks}
use Rattle.affine_check.specs.SecondUses.{if_rev}
use Rattle.typed_programs.proofs.Firsts.{left_among, right_among, among_split}
use Rattle.typed_programs.proofs.Leasts.{none_is, first_is}
use Rattle.affine_check.specs.Laws.{Decides}
use Rattle.affine_check.specs.Affine.{Breakage, number, IsAffine}
use Rattle.affine_check.specs.Places.{at_places, breakages, first_breakage, if_stores, names_in, expression_form_names, expressions_names, links_names, pick_names, expression_form_pick_names, expressions_pick_names, links_pick_names, right_side_copies, items_copies, value_copies, copies, statement_copies, statement_form_copies, arms_copies, stores, statement_stores, statement_form_stores, arms_stores, name_stores, use_places, uses_places, right_side_use_places, value_use_places, outer_uses, statement_outer_uses, statement_form_outer_uses, arms_outer_uses, loop_uses, statement_loop_uses, statement_form_loop_uses, arms_loop_uses, body_places, declarations_places, places}
use Rattle.affine_check.proofs.Exact.{all_found}
use Rattle.affine_check.proofs.Sound.{all_sound}

-- ---- lists

append_found : {P Q : Type 0} (xs ys : List ℕ) (p : ℕ) → (P → Among xs p) → (Q → Among ys p) → P ⊎ Q
    → Among (xs ++ ys) p
append_found xs ys p f g (inl a) = left_among xs ys p (f a)
append_found xs ys p f g (inr b) = right_among xs ys p (g b)

append_sound : {P Q : Type 0} (xs ys : List ℕ) (p : ℕ) → (Among xs p → P) → (Among ys p → Q) → Among (xs ++ ys) p
    → P ⊎ Q
append_sound {P} {Q} xs ys p f g h = by (among_split xs ys p h)
  where
    by : Among xs p ⊎ Among ys p → P ⊎ Q
    by (inl a) = inl (f a)
    by (inr b) = inr (g b)

rev_found : (m : Option (Option ValueKind)) (at p : ℕ) → m ≡ Some (Some k.Rev) → at ≡ p → Among (if_rev m (at ∷ [])) p
rev_found m at p e f = subst (λ y. Among (if_rev y (at ∷ [])) p) (sym e) (inl f)

rev_sound : (m : Option (Option ValueKind)) (at p : ℕ) → Among (if_rev m (at ∷ [])) p
    → (m ≡ Some (Some k.Rev)) × (at ≡ p)
rev_sound None at p h = absurd h
rev_sound (Some None) at p h = absurd h
rev_sound (Some (Some k.Int)) at p h = absurd h
rev_sound (Some (Some k.Bool)) at p h = absurd h
rev_sound (Some (Some k.Rev)) at p (inl e) = (refl, e)
rev_sound (Some (Some k.Rev)) at p (inr h) = absurd h

kind_inside : (a : ValueKind) → Some (Some a) ≡ Some (Some k.Rev) → a ≡ k.Rev
kind_inside a e = cc

stores_found : (m : Option Holder) (at p : ℕ) → ((h : Holder) × (m ≡ Some h) × (h.kind ≡ k.Rev)) × (at ≡ p)
    → Among (if_stores m (at ∷ [])) p
stores_found m at p h =
    subst (λ y. Among (if_stores y (at ∷ [])) p) (sym h.0.1)
    (rev_found (Some (Some h.0.0.kind)) at p (ap (λ y. Some (Some y)) h.0.2) h.1)

stores_sound : (m : Option Holder) (at p : ℕ) → Among (if_stores m (at ∷ [])) p
    → ((h : Holder) × (m ≡ Some h) × (h.kind ≡ k.Rev)) × (at ≡ p)
stores_sound None at p i = absurd i
stores_sound (Some h) at p i = let r = rev_sound (Some (Some h.kind)) at p i in ((h, refl, kind_inside h.kind r.0), r.1)

-- ---- what is in scope

pub scope_behind : (c : Names) (x : Statement) (l l' : Locals) → Behind c l x l' → l' ≡ locals_after c l x
scope_behind c (statement at line (bind w r)) l l' b =
    b.2 ∙ ap (λ o. added l w.text o) (sym (right_side_is c l r b.0 b.1))
scope_behind c (statement at line (assign w r)) l l' b = b
scope_behind c (statement at line (assign_cell w index e)) l l' b = b
scope_behind c (statement at line (choose arms)) l l' b = b
scope_behind c (statement at line (choose_or arms last)) l l' b = b
scope_behind c (statement at line (repeat test body)) l l' b = b
scope_behind c (statement at line (call w args)) l l' b = b
scope_behind c (statement at line (return e)) l l' b = b
scope_behind c (statement at line (fork w args)) l l' b = b
scope_behind c (statement at line (join handle)) l l' b = b
scope_behind c (statement at line (print items)) l l' b = b
scope_behind c (statement at line (assert test)) l l' b = b

pub typed_behind : (c : Names) (result : Option ValueKind) (x : Statement) (l l' : Locals)
    → StatementTyped c result l x l' → Behind c l x l'
typed_behind c result (statement at line (bind w r)) l l' typed = typed.1
typed_behind c result (statement at line (assign w r)) l l' typed = typed.1
typed_behind c result (statement at line (assign_cell w index e)) l l' typed = typed.1
typed_behind c result (statement at line (choose arms)) l l' typed = typed.1
typed_behind c result (statement at line (choose_or arms last)) l l' typed = typed.1
typed_behind c result (statement at line (repeat test body)) l l' typed = typed.1
typed_behind c result (statement at line (call w args)) l l' typed = typed.1
typed_behind c result (statement at line (return e)) l l' typed = typed.1
typed_behind c result (statement at line (fork w args)) l l' typed = typed.1
typed_behind c result (statement at line (join handle)) l l' typed = typed.1
typed_behind c result (statement at line (print items)) l l' typed = typed.1
typed_behind c result (statement at line (assert test)) l l' typed = typed.1

-- ---- each place is in the lists

mutual
  pub name_found : (l : Locals) (x : Expression) (p : ℕ) → NameIn l x p → Among (names_in l x) p
  name_found l (placed at s) p h = expression_form_name_found l s p h

  pub expression_form_name_found : (l : Locals) (x : ExpressionForm) (p : ℕ) → ExpressionFormNameIn l x p
      → Among (expression_form_names l x) p
  expression_form_name_found l (int z) p h = absurd h
  expression_form_name_found l (bool x) p h = absurd h
  expression_form_name_found l no_rev p h = absurd h
  expression_form_name_found l (var w) p h = rev_found (find w.text l) w.at p h.0 h.1
  expression_form_name_found l (cell w index) p h = name_found l index p h
  expression_form_name_found l (apply w args) p h = expressions_name_found l args p h
  expression_form_name_found l (input at index) p h = name_found l index p h
  expression_form_name_found l (inputs at) p h = absurd h
  expression_form_name_found l (pick test x y) p h =
      append_found (names_in l test) (names_in l x ++ names_in l y) p (name_found l test p)
      (append_found (names_in l x) (names_in l y) p (name_found l x p) (name_found l y p)) h
  expression_form_name_found l (unary op e) p h = name_found l e p h
  expression_form_name_found l (chain first rest) p h =
      append_found (names_in l first) (links_names l rest) p (name_found l first p) (links_name_found l rest p) h

  pub expressions_name_found : (l : Locals) (x : Expressions) (p : ℕ) → NamesIn l x p → Among (expressions_names l x) p
  expressions_name_found l no_expressions p h = absurd h
  expressions_name_found l (expression x xs) p h =
      append_found (names_in l x) (expressions_names l xs) p (name_found l x p) (expressions_name_found l xs p) h

  pub links_name_found : (l : Locals) (x : Links) (p : ℕ) → LinksNameIn l x p → Among (links_names l x) p
  links_name_found l no_links p h = absurd h
  links_name_found l (link op x rest) p h =
      append_found (names_in l x) (links_names l rest) p (name_found l x p) (links_name_found l rest p) h

mutual
  pub pick_name_found : (l : Locals) (x : Expression) (p : ℕ) → PickIn l x p → Among (pick_names l x) p
  pick_name_found l (placed at s) p h = expression_form_pick_name_found l s p h

  pub expression_form_pick_name_found : (l : Locals) (x : ExpressionForm) (p : ℕ) → ExpressionFormPickIn l x p
      → Among (expression_form_pick_names l x) p
  expression_form_pick_name_found l (int z) p h = absurd h
  expression_form_pick_name_found l (bool x) p h = absurd h
  expression_form_pick_name_found l no_rev p h = absurd h
  expression_form_pick_name_found l (var w) p h = absurd h
  expression_form_pick_name_found l (cell w index) p h = pick_name_found l index p h
  expression_form_pick_name_found l (apply w args) p h = expressions_pick_name_found l args p h
  expression_form_pick_name_found l (input at index) p h = pick_name_found l index p h
  expression_form_pick_name_found l (inputs at) p h = absurd h
  expression_form_pick_name_found l (pick test x y) p h =
      append_found (names_in l test) (names_in l x ++ names_in l y) p (name_found l test p)
      (append_found (names_in l x) (names_in l y) p (name_found l x p) (name_found l y p)) h
  expression_form_pick_name_found l (unary op e) p h = pick_name_found l e p h
  expression_form_pick_name_found l (chain first rest) p h =
      append_found (pick_names l first) (links_pick_names l rest) p (pick_name_found l first p)
      (links_pick_name_found l rest p) h

  pub expressions_pick_name_found : (l : Locals) (x : Expressions) (p : ℕ) → PicksIn l x p
      → Among (expressions_pick_names l x) p
  expressions_pick_name_found l no_expressions p h = absurd h
  expressions_pick_name_found l (expression x xs) p h =
      append_found (pick_names l x) (expressions_pick_names l xs) p (pick_name_found l x p)
      (expressions_pick_name_found l xs p) h

  pub links_pick_name_found : (l : Locals) (x : Links) (p : ℕ) → LinksPickIn l x p → Among (links_pick_names l x) p
  links_pick_name_found l no_links p h = absurd h
  links_pick_name_found l (link op x rest) p h =
      append_found (pick_names l x) (links_pick_names l rest) p (pick_name_found l x p) (links_pick_name_found l rest p)
      h

pub right_side_copy_found : (l : Locals) (x : RightSide) (p : ℕ) → RightSideCopied l x p
    → Among (right_side_copies l x) p
right_side_copy_found l (plain e) p h = name_found l e p h
right_side_copy_found l (called at w args) p h = expressions_pick_name_found l args p h
right_side_copy_found l (forked at w args) p h = expressions_pick_name_found l args p h
right_side_copy_found l (tried at handle) p h = pick_name_found l handle p h

pub items_copy_found : (l : Locals) (x : List PrintItem) (p : ℕ) → ItemsCopied l x p → Among (items_copies l x) p
items_copy_found l [] p h = absurd h
items_copy_found l (text at bytes ∷ items) p h = items_copy_found l items p h
items_copy_found l (shown e ∷ items) p h =
    append_found (pick_names l e) (items_copies l items) p (pick_name_found l e p) (items_copy_found l items p) h

pub value_copy_found : (l : Locals) (x : Option Expression) (p : ℕ) → ValueCopied l x p → Among (value_copies l x) p
value_copy_found l None p h = absurd h
value_copy_found l (Some e) p h = pick_name_found l e p h

mutual
  pub copy_found : (c : Names) (l : Locals) (x : Statements) (p : ℕ) → Copied c l x p → Among (copies c l x) p
  copy_found c l no_statements p h = absurd h
  copy_found c l (statements x rest) p h =
      append_found (statement_copies c l x) (copies c (locals_after c l x) rest) p (statement_copy_found c l x p)
      (λ b. subst (λ m. Among (copies c m rest) p) (scope_behind c x l b.0 b.1) (copy_found c b.0 rest p b.2)) h

  pub statement_copy_found : (c : Names) (l : Locals) (x : Statement) (p : ℕ) → StatementCopied c l x p
      → Among (statement_copies c l x) p
  statement_copy_found c l (statement at line form) p h = statement_form_copy_found c l form p h

  pub statement_form_copy_found : (c : Names) (l : Locals) (x : StatementForm) (p : ℕ) → StatementFormCopied c l x p
      → Among (statement_form_copies c l x) p
  statement_form_copy_found c l (bind w r) p h = right_side_copy_found l r p h
  statement_form_copy_found c l (assign w r) p h = right_side_copy_found l r p h
  statement_form_copy_found c l (assign_cell w index e) p h =
      append_found (pick_names l index) (pick_names l e) p (pick_name_found l index p) (pick_name_found l e p) h
  statement_form_copy_found c l (choose arms) p h = arms_copy_found c l arms p h
  statement_form_copy_found c l (choose_or arms last) p h =
      append_found (arms_copies c l arms) (copies c l last) p (arms_copy_found c l arms p) (copy_found c l last p) h
  statement_form_copy_found c l (repeat test body) p h =
      append_found (pick_names l test) (copies c l body) p (pick_name_found l test p) (copy_found c l body p) h
  statement_form_copy_found c l (call w args) p h = expressions_pick_name_found l args p h
  statement_form_copy_found c l (return e) p h = value_copy_found l e p h
  statement_form_copy_found c l (fork w args) p h = expressions_pick_name_found l args p h
  statement_form_copy_found c l (join handle) p h = pick_name_found l handle p h
  statement_form_copy_found c l (print items) p h = items_copy_found l items p h
  statement_form_copy_found c l (assert test) p h = pick_name_found l test p h

  pub arms_copy_found : (c : Names) (l : Locals) (x : Arms) (p : ℕ) → ArmsCopied c l x p → Among (arms_copies c l x) p
  arms_copy_found c l no_arms p h = absurd h
  arms_copy_found c l (arm test body rest) p h =
      append_found (pick_names l test) (copies c l body ++ arms_copies c l rest) p (pick_name_found l test p)
      (append_found (copies c l body) (arms_copies c l rest) p (copy_found c l body p) (arms_copy_found c l rest p)) h

pub name_store_found : (c : Names) (x : PlacedName) (p : ℕ) → StoresAt c x p → Among (name_stores c x) p
name_store_found c w p h = stores_found (c.shared w.text) w.at p h

mutual
  pub store_found : (c : Names) (x : Statements) (p : ℕ) → Stored c x p → Among (stores c x) p
  store_found c no_statements p h = absurd h
  store_found c (statements x rest) p h =
      append_found (statement_stores c x) (stores c rest) p (statement_store_found c x p) (store_found c rest p) h

  pub statement_store_found : (c : Names) (x : Statement) (p : ℕ) → StatementStored c x p
      → Among (statement_stores c x) p
  statement_store_found c (statement at line form) p h = statement_form_store_found c form p h

  pub statement_form_store_found : (c : Names) (x : StatementForm) (p : ℕ) → StatementFormStored c x p
      → Among (statement_form_stores c x) p
  statement_form_store_found c (bind w r) p h = absurd h
  statement_form_store_found c (assign w r) p h = name_store_found c w p h
  statement_form_store_found c (assign_cell w index e) p h = name_store_found c w p h
  statement_form_store_found c (choose arms) p h = arms_store_found c arms p h
  statement_form_store_found c (choose_or arms last) p h =
      append_found (arms_stores c arms) (stores c last) p (arms_store_found c arms p) (store_found c last p) h
  statement_form_store_found c (repeat test body) p h = store_found c body p h
  statement_form_store_found c (call w args) p h = absurd h
  statement_form_store_found c (return e) p h = absurd h
  statement_form_store_found c (fork w args) p h = absurd h
  statement_form_store_found c (join handle) p h = absurd h
  statement_form_store_found c (print items) p h = absurd h
  statement_form_store_found c (assert test) p h = absurd h

  pub arms_store_found : (c : Names) (x : Arms) (p : ℕ) → ArmsStored c x p → Among (arms_stores c x) p
  arms_store_found c no_arms p h = absurd h
  arms_store_found c (arm test body rest) p h =
      append_found (stores c body) (arms_stores c rest) p (store_found c body p) (arms_store_found c rest p) h

pub use_at_found : (o : Locals) (x : Expression) (p : ℕ) → UseAt o x p → Among (use_places o x) p
use_at_found o (placed at (var w)) p h = rev_found (find w.text o) w.at p h.0 h.1
use_at_found o (placed at (int z)) p h = absurd h
use_at_found o (placed at (bool z)) p h = absurd h
use_at_found o (placed at no_rev) p h = absurd h
use_at_found o (placed at (cell w index)) p h = absurd h
use_at_found o (placed at (apply w args)) p h = absurd h
use_at_found o (placed at (input i index)) p h = absurd h
use_at_found o (placed at (inputs i)) p h = absurd h
use_at_found o (placed at (pick test x y)) p h = absurd h
use_at_found o (placed at (unary op e)) p h = absurd h
use_at_found o (placed at (chain first rest)) p h = absurd h

pub uses_at_found : (o : Locals) (x : Expressions) (p : ℕ) → UsesAt o x p → Among (uses_places o x) p
uses_at_found o no_expressions p h = absurd h
uses_at_found o (expression x xs) p h =
    append_found (use_places o x) (uses_places o xs) p (use_at_found o x p) (uses_at_found o xs p) h

pub right_side_use_found : (o : Locals) (x : RightSide) (p : ℕ) → RightSideUsesAt o x p
    → Among (right_side_use_places o x) p
right_side_use_found o (plain e) p h = absurd h
right_side_use_found o (called at w args) p h = uses_at_found o args p h
right_side_use_found o (forked at w args) p h = uses_at_found o args p h
right_side_use_found o (tried at handle) p h = use_at_found o handle p h

pub value_use_found : (o : Locals) (x : Option Expression) (p : ℕ) → ValueUsesAt o x p → Among (value_use_places o x) p
value_use_found o None p h = absurd h
value_use_found o (Some e) p h = use_at_found o e p h

mutual
  pub outer_use_found : (o : Locals) (x : Statements) (p : ℕ) → OuterUse o x p → Among (outer_uses o x) p
  outer_use_found o no_statements p h = absurd h
  outer_use_found o (statements x rest) p h =
      append_found (statement_outer_uses o x) (outer_uses o rest) p (statement_outer_use_found o x p)
      (outer_use_found o rest p) h

  pub statement_outer_use_found : (o : Locals) (x : Statement) (p : ℕ) → StatementOuterUse o x p
      → Among (statement_outer_uses o x) p
  statement_outer_use_found o (statement at line form) p h = statement_form_outer_use_found o form p h

  pub statement_form_outer_use_found : (o : Locals) (x : StatementForm) (p : ℕ) → StatementFormOuterUse o x p
      → Among (statement_form_outer_uses o x) p
  statement_form_outer_use_found o (bind w r) p h = right_side_use_found o r p h
  statement_form_outer_use_found o (assign w r) p h = right_side_use_found o r p h
  statement_form_outer_use_found o (assign_cell w index e) p h = absurd h
  statement_form_outer_use_found o (choose arms) p h = arms_outer_use_found o arms p h
  statement_form_outer_use_found o (choose_or arms last) p h =
      append_found (arms_outer_uses o arms) (outer_uses o last) p (arms_outer_use_found o arms p)
      (outer_use_found o last p) h
  statement_form_outer_use_found o (repeat test body) p h = outer_use_found o body p h
  statement_form_outer_use_found o (call w args) p h = uses_at_found o args p h
  statement_form_outer_use_found o (return e) p h = value_use_found o e p h
  statement_form_outer_use_found o (fork w args) p h = uses_at_found o args p h
  statement_form_outer_use_found o (join handle) p h = use_at_found o handle p h
  statement_form_outer_use_found o (print items) p h = absurd h
  statement_form_outer_use_found o (assert test) p h = absurd h

  pub arms_outer_use_found : (o : Locals) (x : Arms) (p : ℕ) → ArmsOuterUse o x p → Among (arms_outer_uses o x) p
  arms_outer_use_found o no_arms p h = absurd h
  arms_outer_use_found o (arm test body rest) p h =
      append_found (outer_uses o body) (arms_outer_uses o rest) p (outer_use_found o body p)
      (arms_outer_use_found o rest p) h

mutual
  pub loop_use_found : (c : Names) (l : Locals) (x : Statements) (p : ℕ) → InLoop c l x p → Among (loop_uses c l x) p
  loop_use_found c l no_statements p h = absurd h
  loop_use_found c l (statements x rest) p h =
      append_found (statement_loop_uses c l x) (loop_uses c (locals_after c l x) rest) p
      (statement_loop_use_found c l x p)
      (λ b. subst (λ m. Among (loop_uses c m rest) p) (scope_behind c x l b.0 b.1) (loop_use_found c b.0 rest p b.2)) h

  pub statement_loop_use_found : (c : Names) (l : Locals) (x : Statement) (p : ℕ) → StatementInLoop c l x p
      → Among (statement_loop_uses c l x) p
  statement_loop_use_found c l (statement at line form) p h = statement_form_loop_use_found c l form p h

  pub statement_form_loop_use_found : (c : Names) (l : Locals) (x : StatementForm) (p : ℕ) → StatementFormInLoop c l x p
      → Among (statement_form_loop_uses c l x) p
  statement_form_loop_use_found c l (bind w r) p h = absurd h
  statement_form_loop_use_found c l (assign w r) p h = absurd h
  statement_form_loop_use_found c l (assign_cell w index e) p h = absurd h
  statement_form_loop_use_found c l (choose arms) p h = arms_loop_use_found c l arms p h
  statement_form_loop_use_found c l (choose_or arms last) p h =
      append_found (arms_loop_uses c l arms) (loop_uses c l last) p (arms_loop_use_found c l arms p)
      (loop_use_found c l last p) h
  statement_form_loop_use_found c l (repeat test body) p h =
      append_found (outer_uses l body) (loop_uses c l body) p (outer_use_found l body p) (loop_use_found c l body p) h
  statement_form_loop_use_found c l (call w args) p h = absurd h
  statement_form_loop_use_found c l (return e) p h = absurd h
  statement_form_loop_use_found c l (fork w args) p h = absurd h
  statement_form_loop_use_found c l (join handle) p h = absurd h
  statement_form_loop_use_found c l (print items) p h = absurd h
  statement_form_loop_use_found c l (assert test) p h = absurd h

  pub arms_loop_use_found : (c : Names) (l : Locals) (x : Arms) (p : ℕ) → ArmsInLoop c l x p
      → Among (arms_loop_uses c l x) p
  arms_loop_use_found c l no_arms p h = absurd h
  arms_loop_use_found c l (arm test body rest) p h =
      append_found (loop_uses c l body) (arms_loop_uses c l rest) p (loop_use_found c l body p)
      (arms_loop_use_found c l rest p) h

-- ---- each place in the lists is one

mutual
  pub name_sound : (l : Locals) (x : Expression) (p : ℕ) → Among (names_in l x) p → NameIn l x p
  name_sound l (placed at s) p h = expression_form_name_sound l s p h

  pub expression_form_name_sound : (l : Locals) (x : ExpressionForm) (p : ℕ) → Among (expression_form_names l x) p
      → ExpressionFormNameIn l x p
  expression_form_name_sound l (int z) p h = absurd h
  expression_form_name_sound l (bool x) p h = absurd h
  expression_form_name_sound l no_rev p h = absurd h
  expression_form_name_sound l (var w) p h = rev_sound (find w.text l) w.at p h
  expression_form_name_sound l (cell w index) p h = name_sound l index p h
  expression_form_name_sound l (apply w args) p h = expressions_name_sound l args p h
  expression_form_name_sound l (input at index) p h = name_sound l index p h
  expression_form_name_sound l (inputs at) p h = absurd h
  expression_form_name_sound l (pick test x y) p h =
      append_sound (names_in l test) (names_in l x ++ names_in l y) p (name_sound l test p)
      (append_sound (names_in l x) (names_in l y) p (name_sound l x p) (name_sound l y p)) h
  expression_form_name_sound l (unary op e) p h = name_sound l e p h
  expression_form_name_sound l (chain first rest) p h =
      append_sound (names_in l first) (links_names l rest) p (name_sound l first p) (links_name_sound l rest p) h

  pub expressions_name_sound : (l : Locals) (x : Expressions) (p : ℕ) → Among (expressions_names l x) p → NamesIn l x p
  expressions_name_sound l no_expressions p h = absurd h
  expressions_name_sound l (expression x xs) p h =
      append_sound (names_in l x) (expressions_names l xs) p (name_sound l x p) (expressions_name_sound l xs p) h

  pub links_name_sound : (l : Locals) (x : Links) (p : ℕ) → Among (links_names l x) p → LinksNameIn l x p
  links_name_sound l no_links p h = absurd h
  links_name_sound l (link op x rest) p h =
      append_sound (names_in l x) (links_names l rest) p (name_sound l x p) (links_name_sound l rest p) h

mutual
  pub pick_name_sound : (l : Locals) (x : Expression) (p : ℕ) → Among (pick_names l x) p → PickIn l x p
  pick_name_sound l (placed at s) p h = expression_form_pick_name_sound l s p h

  pub expression_form_pick_name_sound : (l : Locals) (x : ExpressionForm) (p : ℕ)
      → Among (expression_form_pick_names l x) p → ExpressionFormPickIn l x p
  expression_form_pick_name_sound l (int z) p h = absurd h
  expression_form_pick_name_sound l (bool x) p h = absurd h
  expression_form_pick_name_sound l no_rev p h = absurd h
  expression_form_pick_name_sound l (var w) p h = absurd h
  expression_form_pick_name_sound l (cell w index) p h = pick_name_sound l index p h
  expression_form_pick_name_sound l (apply w args) p h = expressions_pick_name_sound l args p h
  expression_form_pick_name_sound l (input at index) p h = pick_name_sound l index p h
  expression_form_pick_name_sound l (inputs at) p h = absurd h
  expression_form_pick_name_sound l (pick test x y) p h =
      append_sound (names_in l test) (names_in l x ++ names_in l y) p (name_sound l test p)
      (append_sound (names_in l x) (names_in l y) p (name_sound l x p) (name_sound l y p)) h
  expression_form_pick_name_sound l (unary op e) p h = pick_name_sound l e p h
  expression_form_pick_name_sound l (chain first rest) p h =
      append_sound (pick_names l first) (links_pick_names l rest) p (pick_name_sound l first p)
      (links_pick_name_sound l rest p) h

  pub expressions_pick_name_sound : (l : Locals) (x : Expressions) (p : ℕ) → Among (expressions_pick_names l x) p
      → PicksIn l x p
  expressions_pick_name_sound l no_expressions p h = absurd h
  expressions_pick_name_sound l (expression x xs) p h =
      append_sound (pick_names l x) (expressions_pick_names l xs) p (pick_name_sound l x p)
      (expressions_pick_name_sound l xs p) h

  pub links_pick_name_sound : (l : Locals) (x : Links) (p : ℕ) → Among (links_pick_names l x) p → LinksPickIn l x p
  links_pick_name_sound l no_links p h = absurd h
  links_pick_name_sound l (link op x rest) p h =
      append_sound (pick_names l x) (links_pick_names l rest) p (pick_name_sound l x p) (links_pick_name_sound l rest p)
      h

pub right_side_copy_sound : (l : Locals) (x : RightSide) (p : ℕ) → Among (right_side_copies l x) p
    → RightSideCopied l x p
right_side_copy_sound l (plain e) p h = name_sound l e p h
right_side_copy_sound l (called at w args) p h = expressions_pick_name_sound l args p h
right_side_copy_sound l (forked at w args) p h = expressions_pick_name_sound l args p h
right_side_copy_sound l (tried at handle) p h = pick_name_sound l handle p h

pub items_copy_sound : (l : Locals) (x : List PrintItem) (p : ℕ) → Among (items_copies l x) p → ItemsCopied l x p
items_copy_sound l [] p h = absurd h
items_copy_sound l (text at bytes ∷ items) p h = items_copy_sound l items p h
items_copy_sound l (shown e ∷ items) p h =
    append_sound (pick_names l e) (items_copies l items) p (pick_name_sound l e p) (items_copy_sound l items p) h

pub value_copy_sound : (l : Locals) (x : Option Expression) (p : ℕ) → Among (value_copies l x) p → ValueCopied l x p
value_copy_sound l None p h = absurd h
value_copy_sound l (Some e) p h = pick_name_sound l e p h

mutual
  pub copy_sound : (result : Option ValueKind) (c : Names) (l : Locals) (x : Statements) (p : ℕ)
      → StatementsTyped c result l x → Among (copies c l x) p → Copied c l x p
  copy_sound result c l no_statements p typed h = absurd h
  copy_sound result c l (statements x rest) p typed h =
      append_sound (statement_copies c l x) (copies c (locals_after c l x) rest) p
      (statement_copy_sound result c l x p typed.0 typed.1) (λ i. (
        typed.0,
        typed_behind c result x l typed.0 typed.1,
        copy_sound result c typed.0 rest p typed.2
            (subst (λ m. Among (copies c m rest) p)
            (sym (scope_behind c x l typed.0 (typed_behind c result x l typed.0 typed.1))) i),
      )) h

  pub statement_copy_sound : (result : Option ValueKind) (c : Names) (l : Locals) (x : Statement) (p : ℕ)
      → (l' : Locals) → StatementTyped c result l x l' → Among (statement_copies c l x) p → StatementCopied c l x p
  statement_copy_sound result c l (statement at line form) p l' typed h =
      statement_form_copy_sound result c l form p l' typed h

  pub statement_form_copy_sound : (result : Option ValueKind) (c : Names) (l : Locals) (x : StatementForm) (p : ℕ)
      → (l' : Locals) → StatementFormTyped c result l x l' → Among (statement_form_copies c l x) p
      → StatementFormCopied c l x p
  statement_form_copy_sound result c l (bind w r) p l' typed h = right_side_copy_sound l r p h
  statement_form_copy_sound result c l (assign w r) p l' typed h = right_side_copy_sound l r p h
  statement_form_copy_sound result c l (assign_cell w index e) p l' typed h =
      append_sound (pick_names l index) (pick_names l e) p (pick_name_sound l index p) (pick_name_sound l e p) h
  statement_form_copy_sound result c l (choose arms) p l' typed h = arms_copy_sound result c l arms p typed.0 h
  statement_form_copy_sound result c l (choose_or arms last) p l' typed h =
      append_sound (arms_copies c l arms) (copies c l last) p (arms_copy_sound result c l arms p typed.0.0)
      (copy_sound result c l last p typed.0.1) h
  statement_form_copy_sound result c l (repeat test body) p l' typed h =
      append_sound (pick_names l test) (copies c l body) p (pick_name_sound l test p)
      (copy_sound result c l body p typed.0.1) h
  statement_form_copy_sound result c l (call w args) p l' typed h = expressions_pick_name_sound l args p h
  statement_form_copy_sound result c l (return e) p l' typed h = value_copy_sound l e p h
  statement_form_copy_sound result c l (fork w args) p l' typed h = expressions_pick_name_sound l args p h
  statement_form_copy_sound result c l (join handle) p l' typed h = pick_name_sound l handle p h
  statement_form_copy_sound result c l (print items) p l' typed h = items_copy_sound l items p h
  statement_form_copy_sound result c l (assert test) p l' typed h = pick_name_sound l test p h

  pub arms_copy_sound : (result : Option ValueKind) (c : Names) (l : Locals) (x : Arms) (p : ℕ) → ArmsTyped c result l x
      → Among (arms_copies c l x) p → ArmsCopied c l x p
  arms_copy_sound result c l no_arms p typed h = absurd h
  arms_copy_sound result c l (arm test body rest) p typed h =
      append_sound (pick_names l test) (copies c l body ++ arms_copies c l rest) p (pick_name_sound l test p)
      (append_sound (copies c l body) (arms_copies c l rest) p (copy_sound result c l body p typed.1)
      (arms_copy_sound result c l rest p typed.2))
      h

pub name_store_sound : (c : Names) (x : PlacedName) (p : ℕ) → Among (name_stores c x) p → StoresAt c x p
name_store_sound c w p h = stores_sound (c.shared w.text) w.at p h

mutual
  pub store_sound : (c : Names) (x : Statements) (p : ℕ) → Among (stores c x) p → Stored c x p
  store_sound c no_statements p h = absurd h
  store_sound c (statements x rest) p h =
      append_sound (statement_stores c x) (stores c rest) p (statement_store_sound c x p) (store_sound c rest p) h

  pub statement_store_sound : (c : Names) (x : Statement) (p : ℕ) → Among (statement_stores c x) p
      → StatementStored c x p
  statement_store_sound c (statement at line form) p h = statement_form_store_sound c form p h

  pub statement_form_store_sound : (c : Names) (x : StatementForm) (p : ℕ) → Among (statement_form_stores c x) p
      → StatementFormStored c x p
  statement_form_store_sound c (bind w r) p h = absurd h
  statement_form_store_sound c (assign w r) p h = name_store_sound c w p h
  statement_form_store_sound c (assign_cell w index e) p h = name_store_sound c w p h
  statement_form_store_sound c (choose arms) p h = arms_store_sound c arms p h
  statement_form_store_sound c (choose_or arms last) p h =
      append_sound (arms_stores c arms) (stores c last) p (arms_store_sound c arms p) (store_sound c last p) h
  statement_form_store_sound c (repeat test body) p h = store_sound c body p h
  statement_form_store_sound c (call w args) p h = absurd h
  statement_form_store_sound c (return e) p h = absurd h
  statement_form_store_sound c (fork w args) p h = absurd h
  statement_form_store_sound c (join handle) p h = absurd h
  statement_form_store_sound c (print items) p h = absurd h
  statement_form_store_sound c (assert test) p h = absurd h

  pub arms_store_sound : (c : Names) (x : Arms) (p : ℕ) → Among (arms_stores c x) p → ArmsStored c x p
  arms_store_sound c no_arms p h = absurd h
  arms_store_sound c (arm test body rest) p h =
      append_sound (stores c body) (arms_stores c rest) p (store_sound c body p) (arms_store_sound c rest p) h

pub use_at_sound : (o : Locals) (x : Expression) (p : ℕ) → Among (use_places o x) p → UseAt o x p
use_at_sound o (placed at (var w)) p h = rev_sound (find w.text o) w.at p h
use_at_sound o (placed at (int z)) p h = absurd h
use_at_sound o (placed at (bool z)) p h = absurd h
use_at_sound o (placed at no_rev) p h = absurd h
use_at_sound o (placed at (cell w index)) p h = absurd h
use_at_sound o (placed at (apply w args)) p h = absurd h
use_at_sound o (placed at (input i index)) p h = absurd h
use_at_sound o (placed at (inputs i)) p h = absurd h
use_at_sound o (placed at (pick test x y)) p h = absurd h
use_at_sound o (placed at (unary op e)) p h = absurd h
use_at_sound o (placed at (chain first rest)) p h = absurd h

pub uses_at_sound : (o : Locals) (x : Expressions) (p : ℕ) → Among (uses_places o x) p → UsesAt o x p
uses_at_sound o no_expressions p h = absurd h
uses_at_sound o (expression x xs) p h =
    append_sound (use_places o x) (uses_places o xs) p (use_at_sound o x p) (uses_at_sound o xs p) h

pub right_side_use_sound : (o : Locals) (x : RightSide) (p : ℕ) → Among (right_side_use_places o x) p
    → RightSideUsesAt o x p
right_side_use_sound o (plain e) p h = absurd h
right_side_use_sound o (called at w args) p h = uses_at_sound o args p h
right_side_use_sound o (forked at w args) p h = uses_at_sound o args p h
right_side_use_sound o (tried at handle) p h = use_at_sound o handle p h

pub value_use_sound : (o : Locals) (x : Option Expression) (p : ℕ) → Among (value_use_places o x) p → ValueUsesAt o x p
value_use_sound o None p h = absurd h
value_use_sound o (Some e) p h = use_at_sound o e p h

mutual
  pub outer_use_sound : (o : Locals) (x : Statements) (p : ℕ) → Among (outer_uses o x) p → OuterUse o x p
  outer_use_sound o no_statements p h = absurd h
  outer_use_sound o (statements x rest) p h =
      append_sound (statement_outer_uses o x) (outer_uses o rest) p (statement_outer_use_sound o x p)
      (outer_use_sound o rest p) h

  pub statement_outer_use_sound : (o : Locals) (x : Statement) (p : ℕ) → Among (statement_outer_uses o x) p
      → StatementOuterUse o x p
  statement_outer_use_sound o (statement at line form) p h = statement_form_outer_use_sound o form p h

  pub statement_form_outer_use_sound : (o : Locals) (x : StatementForm) (p : ℕ)
      → Among (statement_form_outer_uses o x) p → StatementFormOuterUse o x p
  statement_form_outer_use_sound o (bind w r) p h = right_side_use_sound o r p h
  statement_form_outer_use_sound o (assign w r) p h = right_side_use_sound o r p h
  statement_form_outer_use_sound o (assign_cell w index e) p h = absurd h
  statement_form_outer_use_sound o (choose arms) p h = arms_outer_use_sound o arms p h
  statement_form_outer_use_sound o (choose_or arms last) p h =
      append_sound (arms_outer_uses o arms) (outer_uses o last) p (arms_outer_use_sound o arms p)
      (outer_use_sound o last p) h
  statement_form_outer_use_sound o (repeat test body) p h = outer_use_sound o body p h
  statement_form_outer_use_sound o (call w args) p h = uses_at_sound o args p h
  statement_form_outer_use_sound o (return e) p h = value_use_sound o e p h
  statement_form_outer_use_sound o (fork w args) p h = uses_at_sound o args p h
  statement_form_outer_use_sound o (join handle) p h = use_at_sound o handle p h
  statement_form_outer_use_sound o (print items) p h = absurd h
  statement_form_outer_use_sound o (assert test) p h = absurd h

  pub arms_outer_use_sound : (o : Locals) (x : Arms) (p : ℕ) → Among (arms_outer_uses o x) p → ArmsOuterUse o x p
  arms_outer_use_sound o no_arms p h = absurd h
  arms_outer_use_sound o (arm test body rest) p h =
      append_sound (outer_uses o body) (arms_outer_uses o rest) p (outer_use_sound o body p)
      (arms_outer_use_sound o rest p) h

mutual
  pub loop_use_sound : (result : Option ValueKind) (c : Names) (l : Locals) (x : Statements) (p : ℕ)
      → StatementsTyped c result l x → Among (loop_uses c l x) p → InLoop c l x p
  loop_use_sound result c l no_statements p typed h = absurd h
  loop_use_sound result c l (statements x rest) p typed h =
      append_sound (statement_loop_uses c l x) (loop_uses c (locals_after c l x) rest) p
      (statement_loop_use_sound result c l x p typed.0 typed.1) (λ i. (
        typed.0,
        typed_behind c result x l typed.0 typed.1,
        loop_use_sound result c typed.0 rest p typed.2
            (subst (λ m. Among (loop_uses c m rest) p)
            (sym (scope_behind c x l typed.0 (typed_behind c result x l typed.0 typed.1))) i),
      )) h

  pub statement_loop_use_sound : (result : Option ValueKind) (c : Names) (l : Locals) (x : Statement) (p : ℕ)
      → (l' : Locals) → StatementTyped c result l x l' → Among (statement_loop_uses c l x) p → StatementInLoop c l x p
  statement_loop_use_sound result c l (statement at line form) p l' typed h =
      statement_form_loop_use_sound result c l form p l' typed h

  pub statement_form_loop_use_sound : (result : Option ValueKind) (c : Names) (l : Locals) (x : StatementForm) (p : ℕ)
      → (l' : Locals) → StatementFormTyped c result l x l' → Among (statement_form_loop_uses c l x) p
      → StatementFormInLoop c l x p
  statement_form_loop_use_sound result c l (bind w r) p l' typed h = absurd h
  statement_form_loop_use_sound result c l (assign w r) p l' typed h = absurd h
  statement_form_loop_use_sound result c l (assign_cell w index e) p l' typed h = absurd h
  statement_form_loop_use_sound result c l (choose arms) p l' typed h = arms_loop_use_sound result c l arms p typed.0 h
  statement_form_loop_use_sound result c l (choose_or arms last) p l' typed h =
      append_sound (arms_loop_uses c l arms) (loop_uses c l last) p (arms_loop_use_sound result c l arms p typed.0.0)
      (loop_use_sound result c l last p typed.0.1) h
  statement_form_loop_use_sound result c l (repeat test body) p l' typed h =
      append_sound (outer_uses l body) (loop_uses c l body) p (outer_use_sound l body p)
      (loop_use_sound result c l body p typed.0.1) h
  statement_form_loop_use_sound result c l (call w args) p l' typed h = absurd h
  statement_form_loop_use_sound result c l (return e) p l' typed h = absurd h
  statement_form_loop_use_sound result c l (fork w args) p l' typed h = absurd h
  statement_form_loop_use_sound result c l (join handle) p l' typed h = absurd h
  statement_form_loop_use_sound result c l (print items) p l' typed h = absurd h
  statement_form_loop_use_sound result c l (assert test) p l' typed h = absurd h

  pub arms_loop_use_sound : (result : Option ValueKind) (c : Names) (l : Locals) (x : Arms) (p : ℕ)
      → ArmsTyped c result l x → Among (arms_loop_uses c l x) p → ArmsInLoop c l x p
  arms_loop_use_sound result c l no_arms p typed h = absurd h
  arms_loop_use_sound result c l (arm test body rest) p typed h =
      append_sound (loop_uses c l body) (arms_loop_uses c l rest) p (loop_use_sound result c l body p typed.1)
      (arms_loop_use_sound result c l rest p typed.2) h

-- ---- programs

body_found : (c : Names) (l : Locals) (body : Statements) (b : Breach) (p : ℕ) → BodyBreaks c l body b p
    → Among (body_places c l body b) p
body_found c l body copied p h = copy_found c l body p h
body_found c l body stored p h = store_found c body p h
body_found c l body used_twice p h = all_found c l body p h
body_found c l body in_loop p h = loop_use_found c l body p h

body_sound : (c : Names) (result : Option ValueKind) (l : Locals) (body : Statements) (b : Breach) (p : ℕ)
    → StatementsTyped c result l body → Among (body_places c l body b) p → BodyBreaks c l body b p
body_sound c result l body copied p typed h = copy_sound result c l body p typed h
body_sound c result l body stored p typed h = store_sound c body p h
body_sound c result l body used_twice p typed h = all_sound c result p l body typed h
body_sound c result l body in_loop p typed h = loop_use_sound result c l body p typed h

declarations_found : (c : Names) (es : List Declaration) (b : Breach) (p : ℕ) → DeclarationsBreak c es b p
    → Among (declarations_places c es b) p
declarations_found c [] b p h = absurd h
declarations_found c (fun w ps r body ∷ es) b p h = declarations_found c es b p h
declarations_found c (merge w m j r body ∷ es) b p h = declarations_found c es b p h
declarations_found c (shared x ∷ es) b p h = declarations_found c es b p h
declarations_found c (proc w ps r body ∷ es) b p h =
    append_found (body_places c (with_params [] ps) body b) (declarations_places c es b) p
    (body_found c (with_params [] ps) body b p) (declarations_found c es b p) h

declarations_sound : (c inner : Names) (before es : List Declaration) (b : Breach) (p : ℕ)
    → DeclarationsTyped c inner before es → Among (declarations_places c es b) p → DeclarationsBreak c es b p
declarations_sound c inner before [] b p typed h = absurd h
declarations_sound c inner before (fun w ps r body ∷ es) b p typed h =
    declarations_sound c inner (fun w ps r body ∷ before) es b p typed.1 h
declarations_sound c inner before (merge w m j r body ∷ es) b p typed h =
    declarations_sound c inner (merge w m j r body ∷ before) es b p typed.1 h
declarations_sound c inner before (shared x ∷ es) b p typed h =
    declarations_sound c inner (shared x ∷ before) es b p typed.1 h
declarations_sound c inner before (proc w ps r body ∷ es) b p typed h =
    append_sound (body_places c (with_params [] ps) body b) (declarations_places c es b) p
    (body_sound c r (with_params [] ps) body b p typed.0.body)
    (declarations_sound c inner (proc w ps r body ∷ before) es b p typed.1) h

pub places_found : (x : ProgramTree) (b : Breach) (p : ℕ) → Breaks x b p → Among (places x b) p
places_found x b p h =
    let c = outside x.declarations in
    append_found (declarations_places c x.declarations b) (body_places c [] x.main b) p
    (declarations_found c x.declarations b p) (body_found c [] x.main b p) h

pub places_sound : (x : ProgramTree) (b : Breach) (p : ℕ) → ProgramTyped x → Among (places x b) p → Breaks x b p
places_sound x b p typed h =
    let c = outside x.declarations in
    append_sound (declarations_places c x.declarations b) (body_places c [] x.main b) p
    (declarations_sound c (within x.declarations) [] x.declarations b p typed.declarations)
    (body_sound c None [] x.main b p typed.main) h

-- ---- the first place

at_found : (b : Breach) (ps : List ℕ) (at : ℕ) → Among ps at → Among (at_places b ps) (record { at = at; how = b })
at_found b [] at h = absurd h
at_found b (x ∷ ps) at (inl e) = inl (ap (λ y. record { at = y; how = b }) e)
at_found b (x ∷ ps) at (inr h) = inr (at_found b ps at h)

at_sound : (b : Breach) (ps : List ℕ) (f : Breakage) → Among (at_places b ps) f → (f.how ≡ b) × Among ps f.at
at_sound b [] f h = absurd h
at_sound b (x ∷ ps) f (inl e) = (sym (ap (λ g. g.how) e), inl (ap (λ g. g.at) e))
at_sound b (x ∷ ps) f (inr h) = let r = at_sound b ps f h in (r.0, inr r.1)

module _ (x : ProgramTree) where
  breakage_found : (b : Breach) (at : ℕ) → Among (places x b) at → Among (breakages x) (record { at = at; how = b })
  breakage_found copied at h =
      left_among (at_places copied (places x copied))
      (at_places stored (places x stored)
      ++ (at_places used_twice (places x used_twice) ++ at_places in_loop (places x in_loop)))
      (record { at = at; how = copied }) (at_found copied (places x copied) at h)
  breakage_found stored at h =
      right_among (at_places copied (places x copied))
      (at_places stored (places x stored)
      ++ (at_places used_twice (places x used_twice) ++ at_places in_loop (places x in_loop)))
      (record { at = at; how = stored })
      (left_among (at_places stored (places x stored))
      (at_places used_twice (places x used_twice) ++ at_places in_loop (places x in_loop))
      (record { at = at; how = stored }) (at_found stored (places x stored) at h))
  breakage_found used_twice at h =
      right_among (at_places copied (places x copied))
      (at_places stored (places x stored)
      ++ (at_places used_twice (places x used_twice) ++ at_places in_loop (places x in_loop)))
      (record { at = at; how = used_twice })
      (right_among (at_places stored (places x stored))
      (at_places used_twice (places x used_twice) ++ at_places in_loop (places x in_loop))
      (record { at = at; how = used_twice })
      (left_among (at_places used_twice (places x used_twice)) (at_places in_loop (places x in_loop))
      (record { at = at; how = used_twice }) (at_found used_twice (places x used_twice) at h)))
  breakage_found in_loop at h =
      right_among (at_places copied (places x copied))
      (at_places stored (places x stored)
      ++ (at_places used_twice (places x used_twice) ++ at_places in_loop (places x in_loop)))
      (record { at = at; how = in_loop })
      (right_among (at_places stored (places x stored))
      (at_places used_twice (places x used_twice) ++ at_places in_loop (places x in_loop))
      (record { at = at; how = in_loop })
      (right_among (at_places used_twice (places x used_twice)) (at_places in_loop (places x in_loop))
      (record { at = at; how = in_loop }) (at_found in_loop (places x in_loop) at h)))

  of_list : (b : Breach) (f : Breakage) → Among (at_places b (places x b)) f → Among (places x f.how) f.at
  of_list b f h = let r = at_sound b (places x b) f h in subst (λ y. Among (places x y) f.at) (sym r.0) r.1

  breakage_sound : (f : Breakage) → Among (breakages x) f → Among (places x f.how) f.at
  breakage_sound f h =
      by (among_split (at_places copied (places x copied))
      (at_places stored (places x stored)
      ++ (at_places used_twice (places x used_twice) ++ at_places in_loop (places x in_loop)))
      f h)
    where
      third : Among (at_places used_twice (places x used_twice)) f ⊎ Among (at_places in_loop (places x in_loop)) f
          → Among (places x f.how) f.at
      third (inl a) = of_list used_twice f a
      third (inr a) = of_list in_loop f a

      second : Among (at_places stored (places x stored)) f
          ⊎ Among (at_places used_twice (places x used_twice) ++ at_places in_loop (places x in_loop)) f
          → Among (places x f.how) f.at
      second (inl a) = of_list stored f a
      second (inr a) =
          third (among_split (at_places used_twice (places x used_twice)) (at_places in_loop (places x in_loop)) f a)

      by : Among (at_places copied (places x copied)) f
          ⊎ Among (at_places stored (places x stored)
          ++ (at_places used_twice (places x used_twice) ++ at_places in_loop (places x in_loop)))
          f
          → Among (places x f.how) f.at
      by (inl a) = of_list copied f a
      by (inr a) = second (among_split (at_places stored (places x stored))
          (at_places used_twice (places x used_twice) ++ at_places in_loop (places x in_loop)) f a)

  pub decided : ProgramTyped x → Decides x (first_breakage x)
  decided typed = by (first_breakage x) refl
    where
      by : (o : Option Breakage) → first_breakage x ≡ o → Decides x o
      by None e = λ b at h.
          subst (λ ys. Among ys (record { at = at; how = b })) (none_is (λ f. f.at) (λ f. number f.how) (breakages x) e)
          (breakage_found b at (places_found x b at h))
      by (Some f) e =
          let is = first_is (λ g. g.at) (λ g. number g.how) (breakages x) f e in
          record {
            broken = places_sound x f.how f.at typed (breakage_sound f is.among);
            first = λ b at h. is.first (record { at = at; how = b }) (breakage_found b at (places_found x b at h));
          }

  -- a program whose lists are empty keeps the rule
  pub affine_by : first_breakage x ≡ None → IsAffine x
  affine_by e b at h =
      subst (λ ys. Among ys (record { at = at; how = b })) (none_is (λ f. f.at) (λ f. number f.how) (breakages x) e)
      (breakage_found b at (places_found x b at h))

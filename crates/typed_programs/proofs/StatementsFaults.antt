-- What holds of the limits that a typed statement breaks holds of all that it breaks.
use Rattle.std.proofs.Common.{◌≡◌, ◌∙◌, inl, inr, ℕ, ◌-◌, Bool, true, false, cond, nat_eq, Option, Some, None, List, [], ◌∷◌, ◌++◌, refl, ap, subst, length}
use Rattle.rev_num.specs.declared.value.ValueKind.{ValueKind}
use Rattle.rev_num.specs.declared.value.ValueKind.TheVariants as k
use Rattle.rev_syntax.specs.Trees.{PlacedName, Expression, Expressions, RightSide, plain, called, forked, tried, PrintItem, text, shown, Statement, statement, StatementForm, bind, assign, assign_cell, choose, choose_or, repeat, call, return, fork, join, print, assert, Statements, no_statements, statements, Arms, no_arms, arm}
use Rattle.typed_programs.specs.FunRules.{count}
use Rattle.typed_programs.specs.Least.{Among}
use Rattle.name_tables.specs.Table.{find}
use Rattle.rev_report.specs.declared.limit.Limit.{Limit}
use Rattle.rev_report.specs.declared.limit.Limit.TheVariants as limits
use Rattle.typed_programs.specs.declared.fault.TypeFault.{TypeFault}
use Rattle.typed_programs.specs.declared.names.Holder.{Holder}
use Rattle.rev_report.specs.Limits.{first_past}
use Rattle.typed_programs.specs.Faults.{exceeded}
use Rattle.typed_programs.specs.Kinds.{Callee, Names, Locals, name_kind, kind_in, right_side_kind, right_side_place, expression_place, item_place}
use Rattle.typed_programs.specs.Rules as r
use Rattle.typed_programs.specs.Typing.{HasKind}
use Rattle.typed_programs.proofs.Lists.{whole, passes, equal, is_equal}
use Rattle.typed_programs.proofs.Typings.{All, one, app, wants_nothing, handle_not, alike_nothing, scalar_complete, array_complete, args_complete, complete}
use Rattle.typed_programs.specs.Statements as s
use Rattle.typed_programs.specs.Scopes as scopes
use Rattle.typed_programs.specs.Judgement.{CallTyped, RightSideHas, ItemTyped, ItemsTyped, ReturnTyped, StatementTyped, StatementFormTyped, StatementsTyped, ArmsTyped}
use Rattle.typed_programs.proofs.Scopes.{right_side_is, statement_scope}

-- ---- expressions and right sides

pub part_nothing : (c : Names) (l : Locals) (e : Expression) (t : ValueKind) → HasKind c l e t
    → r.part_by [] one app c l e t ≡ []
part_nothing c l e t h =
    let both = complete c l e t h in
    whole _ _ both.0 (wants_nothing (expression_place e) (kind_in c l e) t both.1)

call_nothing : (c : Names) (l : Locals) (w : PlacedName) (args : Expressions) (p : Callee) → CallTyped c l w args p
    → r.call_by [] one app c l w args ≡ []
call_nothing c l w args p h =
    whole _ _
    (ap (λ o. r.callee_use [] one app w (count args) o) h.0
    ∙ passes (nat_eq (count args) (length p.params)) _ (is_equal (count args) (length p.params) h.1))
    (ap (λ o. r.args_by [] one app c l (r.params_of [] one app o) 0 [] args) h.0
    ∙ args_complete c l p.params 0 [] args refl h.2)

right_side_nothing : (c : Names) (l : Locals) (x : RightSide) (t : ValueKind) → RightSideHas c l x t
    → r.broken_in_right_side [] one app c l x ≡ []
right_side_nothing c l (plain e) t h = (complete c l e t h).0
right_side_nothing c l (called at w args) t h =
    whole _ _
    (ap (λ o. r.result_use [] one app w.at o) h.1.0 ∙ ap (λ o. r.has_result [] one app w.at o) h.2)
    (call_nothing c l w args h.0 h.1)
right_side_nothing c l (forked at w args) t h = call_nothing c l w args h.1.0 h.1.1
right_side_nothing c l (tried at e) t h = part_nothing c l e k.Rev h.1

-- ---- statements that break no limit themselves

pub new_nothing : (w : PlacedName) (found : Option (Option ValueKind)) (h : Option Holder) → found ≡ None → h ≡ None
    → s.new_local [] one app w found h ≡ []
new_nothing w found h p q = λ i. s.new_local [] one app w (p i) (q i)

return_nothing : (c : Names) (l : Locals) (result : Option ValueKind) (at : ℕ) (e : Option Expression)
    → ReturnTyped c l result e → s.return_by [] one app c l result at e ≡ []
return_nothing c l None at None h = refl
return_nothing c l None at (Some e) h = absurd h
return_nothing c l (Some t) at None h = absurd h
return_nothing c l (Some t) at (Some e) h = part_nothing c l e t h

assign_nothing : (c : Names) (l : Locals) (w : PlacedName) (x : RightSide) (l' : Locals)
    → StatementFormTyped c None l (assign w x) l' → s.assign_by [] one app c l w x ≡ []
assign_nothing c l w x l' h =
    let name = scalar_complete w (find w.text l) (c.shared w.text) h.0.0 h.0.1 in
    whole _ _ name.0 (whole _ _ (right_side_nothing c l x h.0.0 h.0.2)
    (alike_nothing (right_side_place x) (name_kind (find w.text l) (c.shared w.text)) (right_side_kind c l x) h.0.0
    name.1 (right_side_is c l x h.0.0 h.0.2)))

cell_nothing : (c : Names) (l : Locals) (w : PlacedName) (index e : Expression) (l' : Locals)
    → StatementFormTyped c None l (assign_cell w index e) l' → s.cell_by [] one app c l w index e ≡ []
cell_nothing c l w index e l' h =
    let name = array_complete w (find w.text l) (c.shared w.text) h.0.0 h.0.1 in
    let value = complete c l e h.0.0 h.0.3 in
    whole _ _ name.0 (whole _ _ (part_nothing c l index k.Int h.0.2)
    (whole _ _ value.0 (alike_nothing (expression_place e) (name_kind (find w.text l) (c.shared w.text)) (kind_in c l e)
    h.0.0 name.1 value.1)))

-- ---- all that a statement breaks

module _ (P : TypeFault → Type 0) where
  abbrev pub AllAre : All → Type 0
  AllAre fs = (f : TypeFault) → Among fs f → P f

  pub all_none : AllAre []
  all_none f m = absurd m

  pub all_both : (xs ys : All) → AllAre xs → AllAre ys → AllAre (xs ++ ys)
  all_both [] ys a b f m = b f m
  all_both (x ∷ xs) ys a b f (inl is) = a f (inl is)
  all_both (x ∷ xs) ys a b f (inr m) = all_both xs ys (λ g n. a g (inr n)) b f m

  pub all_of : (xs : All) → xs ≡ [] → AllAre xs
  all_of xs h f m = absurd (subst (λ l. Among l f) h m)

  pub all_when : (x : Bool) (g : TypeFault) → (x ≡ true → P g) → AllAre (cond x (g ∷ []) [])
  all_when true g h f (inl is) = subst P is (h refl)
  all_when true g h f (inr m) = absurd m
  all_when false g h f m = absurd m

  -- the first past a limit
  pub all_at : (left : ℕ) (g : TypeFault) → (left ≡ 1 → P g) → AllAre (cond (nat_eq left 1) (g ∷ []) [])
  all_at left g h = all_when (nat_eq left 1) g (λ e. h (equal left 1 e))

  -- it holds of the limit where a list breaks it, of which this many are left
  abbrev pub ListHolds : {A : Type 0} → Limit → (A → ℕ) → ℕ → List A → Type 0
  ListHolds what place left [] = Unit {0}
  ListHolds what place left (x ∷ xs) = (left ≡ 1 → P (exceeded (place x) what)) × ListHolds what place (left - 1) xs

  -- it holds of each limit that a statement breaks, where this many locals are left
  abbrev mutual
    pub StatementHolds : ℕ → Statement → Type 0
    StatementHolds left (statement at line form) = StatementFormHolds left form

    pub StatementFormHolds : ℕ → StatementForm → Type 0
    StatementFormHolds left (bind w x) = left ≡ 1 → P (exceeded w.at limits.Locals)
    StatementFormHolds left (choose arms) = ArmsHold left arms
    StatementFormHolds left (choose_or arms last) = ArmsHold left arms × StatementsHold (s.left_arms left arms) last
    StatementFormHolds left (repeat test body) = StatementsHold left body
    StatementFormHolds left (print items) = ListHolds limits.Items item_place (first_past limits.Items) items
    StatementFormHolds left (assign w x) = Unit {0}
    StatementFormHolds left (assign_cell w index e) = Unit {0}
    StatementFormHolds left (call w args) = Unit {0}
    StatementFormHolds left (return e) = Unit {0}
    StatementFormHolds left (fork w args) = Unit {0}
    StatementFormHolds left (join e) = Unit {0}
    StatementFormHolds left (assert e) = Unit {0}

    pub StatementsHold : ℕ → Statements → Type 0
    StatementsHold left no_statements = Unit {0}
    StatementsHold left (statements x rest) = StatementHolds left x × StatementsHold (s.left_after left x) rest

    pub ArmsHold : ℕ → Arms → Type 0
    ArmsHold left no_arms = Unit {0}
    ArmsHold left (arm test body rest) = StatementsHold left body × ArmsHold (s.left_statements left body) rest

  item_faults : (c : Names) (l : Locals) (left : ℕ) (x : PrintItem) → ItemTyped c l x
      → (left ≡ 1 → P (exceeded (item_place x) limits.Items)) → AllAre (s.item_by [] one app c l left x)
  item_faults c l left (text at bytes) h g = all_at left (exceeded at limits.Items) g
  item_faults c l left (shown e) h g =
      let both = complete c l e h.0 h.1 in
      let handle =
      ap (λ o. r.not_rev [] one app (expression_place e) o) both.1 ∙ handle_not (expression_place e) h.0 h.2 in
      all_both _ _ (all_of _ (whole _ _ both.0 handle)) (all_at left (exceeded (expression_place e) limits.Items) g)

  items_faults : (c : Names) (l : Locals) (left : ℕ) (found : All) (xs : List PrintItem) → AllAre found
      → ItemsTyped c l xs → ListHolds limits.Items item_place left xs → AllAre (s.items_by [] one app c l left found xs)
  items_faults c l left found [] a h g = a
  items_faults c l left found (x ∷ xs) a h g =
      items_faults c l (left - 1) _ xs (all_both _ _ a (item_faults c l left x h.0 g.0)) h.1 g.1

  bind_faults : (c : Names) (l : Locals) (left : ℕ) (w : PlacedName) (x : RightSide) (l' : Locals)
      → StatementFormTyped c None l (bind w x) l' → (left ≡ 1 → P (exceeded w.at limits.Locals))
      → AllAre (s.bind_by [] one app c l left w x)
  bind_faults c l left w x l' h g =
      all_both _ _ (all_of _ (right_side_nothing c l x h.1.0 h.1.1))
      (all_both _ _ (all_of _ (new_nothing w (find w.text l) (c.shared w.text) h.0.0 h.0.1))
      (all_at left (exceeded w.at limits.Locals) g))

  mutual
    statement_faults : (c : Names) (result : Option ValueKind) (l : Locals) (left : ℕ) (x : Statement) (l' : Locals)
        → StatementTyped c result l x l' → StatementHolds left x
        → AllAre (s.broken_in_statement [] one app c result l left x)
    statement_faults c result l left (statement at line form) l' h g =
        statement_form_faults c result l left at form l' h g

    statement_form_faults : (c : Names) (result : Option ValueKind) (l : Locals) (left at : ℕ) (x : StatementForm)
        (l' : Locals)
        → StatementFormTyped c result l x l' → StatementFormHolds left x
        → AllAre (s.broken_in_statement_form [] one app c result l left at x)
    statement_form_faults c result l left at (bind w x) l' h g = bind_faults c l left w x l' h g
    statement_form_faults c result l left at (assign w x) l' h g = all_of _ (assign_nothing c l w x l' h)
    statement_form_faults c result l left at (assign_cell w index e) l' h g = all_of _ (cell_nothing c l w index e l' h)
    statement_form_faults c result l left at (choose arms) l' h g = arms_faults c result l left [] arms all_none h.0 g
    statement_form_faults c result l left at (choose_or arms last) l' h g =
        all_both _ _ (arms_faults c result l left [] arms all_none h.0.0 g.0)
        (statements_faults c result l (s.left_arms left arms) [] last all_none h.0.1 g.1)
    statement_form_faults c result l left at (repeat test body) l' h g =
        all_both _ _ (all_of _ (part_nothing c l test k.Bool h.0.0))
        (statements_faults c result l left [] body all_none h.0.1 g)
    statement_form_faults c result l left at (call w args) l' h g = all_of _ (call_nothing c l w args h.0.0 h.0.1)
    statement_form_faults c result l left at (return e) l' h g = all_of _ (return_nothing c l result at e h.0)
    statement_form_faults c result l left at (fork w args) l' h g = all_of _ (call_nothing c l w args h.0.0 h.0.1)
    statement_form_faults c result l left at (join e) l' h g = all_of _ (part_nothing c l e k.Rev h.0)
    statement_form_faults c result l left at (print items) l' h g =
        items_faults c l (first_past limits.Items) [] items all_none h.0 g
    statement_form_faults c result l left at (assert e) l' h g = all_of _ (part_nothing c l e k.Bool h.0)

    pub statements_faults : (c : Names) (result : Option ValueKind) (l : Locals) (left : ℕ) (found : All)
        (ss : Statements)
        → AllAre found → StatementsTyped c result l ss → StatementsHold left ss
        → AllAre (s.broken_in_statements [] one app c result l left found ss)
    statements_faults c result l left found no_statements a h g = a
    statements_faults c result l left found (statements x rest) a h g =
        statements_faults c result (scopes.locals_after c l x) (s.left_after left x) _ rest
        (all_both _ _ a (statement_faults c result l left x h.0 h.1 g.0))
        (subst (λ m. StatementsTyped c result m rest) (statement_scope c result l h.0 x h.1) h.2) g.1

    arms_faults : (c : Names) (result : Option ValueKind) (l : Locals) (left : ℕ) (found : All) (xs : Arms)
        → AllAre found → ArmsTyped c result l xs → ArmsHold left xs
        → AllAre (s.broken_in_arms [] one app c result l left found xs)
    arms_faults c result l left found no_arms a h g = a
    arms_faults c result l left found (arm test body rest) a h g =
        arms_faults c result l (s.left_statements left body) _ rest
        (all_both _ _ a (all_both _ _ (all_of _ (part_nothing c l test k.Bool h.0))
        (statements_faults c result l left [] body all_none h.1 g.0)))
        h.2 g.1

  -- where it holds of every limit
  module _ (every : (at : ℕ) (what : Limit) → P (exceeded at what)) where
    pub list_holds : {A : Type 0} (what : Limit) (place : A → ℕ) (left : ℕ) (xs : List A) → ListHolds what place left xs
    list_holds what place left [] = tt
    list_holds what place left (x ∷ xs) = (λ e. every (place x) what, list_holds what place (left - 1) xs)

    mutual
      statement_holds : (left : ℕ) (x : Statement) → StatementHolds left x
      statement_holds left (statement at line form) = statement_form_holds left form

      statement_form_holds : (left : ℕ) (x : StatementForm) → StatementFormHolds left x
      statement_form_holds left (bind w x) = λ e. every w.at limits.Locals
      statement_form_holds left (choose arms) = arms_hold left arms
      statement_form_holds left (choose_or arms last) =
          (arms_hold left arms, statements_hold (s.left_arms left arms) last)
      statement_form_holds left (repeat test body) = statements_hold left body
      statement_form_holds left (print items) = list_holds limits.Items item_place (first_past limits.Items) items
      statement_form_holds left (assign w x) = tt
      statement_form_holds left (assign_cell w index e) = tt
      statement_form_holds left (call w args) = tt
      statement_form_holds left (return e) = tt
      statement_form_holds left (fork w args) = tt
      statement_form_holds left (join e) = tt
      statement_form_holds left (assert e) = tt

      pub statements_hold : (left : ℕ) (ss : Statements) → StatementsHold left ss
      statements_hold left no_statements = tt
      statements_hold left (statements x rest) = (statement_holds left x, statements_hold (s.left_after left x) rest)

      arms_hold : (left : ℕ) (xs : Arms) → ArmsHold left xs
      arms_hold left no_arms = tt
      arms_hold left (arm test body rest) = (statements_hold left body, arms_hold (s.left_statements left body) rest)

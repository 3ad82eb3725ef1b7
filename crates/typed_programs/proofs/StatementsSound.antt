-- A statement that breaks no rule is typed.
use Rattle.std.proofs.Common.{◌≡◌, ◌∙◌, ◌≢◌, ℕ, ◌-◌, Bool, true, false, cond, ◌&&◌, IsTrue, nat_eq, Option, Some, None, List, [], ◌∷◌, ◌++◌, refl, sym, ap, subst, length}
use Rattle.std.specs.List.{list_all}
use Rattle.rev_num.specs.declared.value.ValueKind.{ValueKind}
use Rattle.rev_num.specs.declared.value.ValueKind.TheVariants as k
use Rattle.rev_syntax.specs.Trees.{PlacedName, Expression, Expressions, RightSide, plain, called, forked, tried, PrintItem, text, shown, Statement, statement, StatementForm, bind, assign, assign_cell, choose, choose_or, repeat, call, return, fork, join, print, assert, Statements, no_statements, statements, Arms, no_arms, arm}
use Rattle.rev_syntax.specs.Small.{name_formed, expression_small, expressions_small, right_side_small, item_small, statement_small, statement_form_small, statements_small, arms_small}
use Rattle.typed_programs.specs.FunRules.{Use, count, broken_in, expression_uses, expressions_uses, right_side_uses, item_uses, items_uses, value_uses, statement_uses, statement_form_uses, statements_uses, arms_uses}
use Rattle.name_tables.specs.Names.{Name, same}
use Rattle.name_tables.specs.Table.{find, added}
use Rattle.typed_programs.specs.declared.expanded.FunHead.{FunHead}
use Rattle.name_tables.proofs.Tables.{or_else, find-added}
use Rattle.rev_report.specs.declared.limit.Limit.TheVariants as limits
use Rattle.typed_programs.specs.declared.names.Holder.{Holder}
use Rattle.rev_report.specs.Limits.{first_past}
use Rattle.typed_programs.specs.Kinds.{Callee, Names, Locals, name_kind, result_of, kind_in, right_side_kind, right_side_place, expression_place}
use Rattle.typed_programs.specs.Rules as r
use Rattle.typed_programs.specs.Typing.{HasKind}
use Rattle.typed_programs.specs.KindLaws.{AllKinded, IsKnown}
use Rattle.typed_programs.proofs.Lists.{parts, held, and_parts, equal}
use Rattle.typed_programs.proofs.Typings.{All, one, app, no_handle, alike_is, scalar_sound, array_sound, args_sound, has_wanted, sound, Kinded}
use Rattle.typed_programs.specs.Statements as s
use Rattle.typed_programs.specs.Scopes as scopes
use Rattle.typed_programs.specs.Judgement.{CallTyped, RightSideHas, ItemTyped, ItemsTyped, ReturnTyped, StatementTyped, StatementFormTyped, StatementsTyped, ArmsTyped}
use Rattle.typed_programs.proofs.Applying.{broken_parts, small_applies, small_apply}

-- ---- scopes in which each local has a kind

kinded_by : (o : Option (Option ValueKind)) (b : Bool) (t : ValueKind) → o ≢ Some None
    → or_else o (cond b (Some (Some t)) None) ≢ Some None
kinded_by None true t n h = cc
kinded_by None false t n h = cc
kinded_by (Some x) b t n h = n h

pub kinded_added : (l : Locals) (w : Name) (t : ValueKind) → AllKinded l → AllKinded (added l w (Some t))
kinded_added l w t a name h = kinded_by (find name l) (same name w) t (a name) (sym (find-added name w (Some t) l) ∙ h)

pub none_kinded : AllKinded []
none_kinded name h = cc

-- ---- names

-- a name that may be bound
pub new_is : (w : PlacedName) (found : Option (Option ValueKind)) (h : Option Holder)
    → s.new_local [] one app w found h ≡ [] → (found ≡ None) × (h ≡ None)
new_is w None None e = (refl, refl)
new_is w (Some x) h e = absurd (let d : s.new_local [] one app w (Some x) h ≡ [] = e in cc)
new_is w None (Some y) e = absurd (let d : s.new_local [] one app w None (Some y) ≡ [] = e in cc)

known_proc : (w : PlacedName) (n : ℕ) (o : Option Callee) → r.callee_use [] one app w n o ≡ []
    → (p : Callee) × (o ≡ Some p) × (n ≡ length p.params)
known_proc w n None h = absurd (let e : r.callee_use [] one app w n None ≡ [] = h in cc)
known_proc w n (Some p) h = (p, refl, equal n (length p.params) (held (nat_eq n (length p.params)) _ h))

some_result : (at : ℕ) (o : Option ValueKind) → r.has_result [] one app at o ≡ [] → (t : ValueKind) × (o ≡ Some t)
some_result at None h = absurd (let e : r.has_result [] one app at None ≡ [] = h in cc)
some_result at (Some t) h = (t, refl)

-- ---- statements

-- what was found before the statements of a block is among what was found
pub statements_before : (c : Names) (result : Option ValueKind) (l : Locals) (left : ℕ) (found : All) (ss : Statements)
    → s.broken_in_statements [] one app c result l left found ss ≡ [] → found ≡ []
statements_before c result l left found no_statements h = h
statements_before c result l left found (statements a rest) h =
    (parts found _ (statements_before c result (scopes.locals_after c l a) (s.left_after left a)
    (found ++ s.broken_in_statement [] one app c result l left a) rest h)).0

-- where names mean these funs, of which the applications break no rule
module _ (named : Name → Option FunHead) (c : Names)
    (known : (name : Name) (h : FunHead) → named name ≡ Some h → IsKnown h.params (c.funs name)) (n : ℕ) where
  abbrev Fine : List Use → Type 0
  Fine us = broken_in named us ≡ []

  pub expression_typed : (l : Locals) (e : Expression) → AllKinded l → Fine (expression_uses n e)
      → IsTrue (expression_small e) → r.broken_in_expression [] one app c l e ≡ [] → Kinded c l e
  expression_typed l e a u f h = sound c l e a (small_applies named c known n e u f) h

  pub part_typed : (l : Locals) (e : Expression) (t : ValueKind) → AllKinded l → Fine (expression_uses n e)
      → IsTrue (expression_small e) → r.part_by [] one app c l e t ≡ [] → HasKind c l e t
  part_typed l e t a u f h =
      let both = parts (r.broken_in_expression [] one app c l e) _ h in
      has_wanted c l e t (expression_typed l e a u f both.0) both.1

  call_typed : (l : Locals) (w : PlacedName) (args : Expressions) → AllKinded l → Fine (expressions_uses n args)
      → IsTrue (expressions_small args) → r.call_by [] one app c l w args ≡ []
      → (p : Callee) × CallTyped c l w args p
  call_typed l w args a u f h =
      let both = parts (r.callee_use [] one app w (count args) (c.procs w.text)) _ h in
      let p = known_proc w (count args) (c.procs w.text) both.0 in
      let given = subst (λ o. r.args_by [] one app c l (r.params_of [] one app o) 0 [] args ≡ []) p.1 both.1 in
      (p.0, (p.1, p.2, (args_sound c l p.0.params 0 [] args a (small_apply named c known n args u f) given).1))

  right_side_typed : (l : Locals) (x : RightSide) → AllKinded l → Fine (right_side_uses n x)
      → IsTrue (right_side_small x) → r.broken_in_right_side [] one app c l x ≡ []
      → (t : ValueKind) × (right_side_kind c l x ≡ Some t) × RightSideHas c l x t
  right_side_typed l (plain e) a u f h = expression_typed l e a u f h
  right_side_typed l (called at w args) a u f h =
      let both = parts (r.result_use [] one app w.at (c.procs w.text)) _ h in
      let p = call_typed l w args a u (and_parts (name_formed w) (expressions_small args) f).1 both.1 in
      let given = some_result w.at p.0.result (subst (λ o. r.result_use [] one app w.at o ≡ []) p.1.0 both.0) in
      (given.0, ap result_of p.1.0 ∙ given.1, (p.0, p.1, given.1))
  right_side_typed l (forked at w args) a u f h =
      (k.Rev, refl, (refl, call_typed l w args a u (and_parts (name_formed w) (expressions_small args) f).1 h))
  right_side_typed l (tried at e) a u f h = (k.Bool, refl, (refl, part_typed l e k.Rev a u f h))

  item_typed : (l : Locals) (left : ℕ) (x : PrintItem) → AllKinded l → Fine (item_uses n x) → IsTrue (item_small x)
      → s.item_by [] one app c l left x ≡ [] → ItemTyped c l x
  item_typed l left (text at bytes) a u f h = tt
  item_typed l left (shown e) a u f h =
      let both =
      parts (r.broken_in_expression [] one app c l e ++ r.not_rev [] one app (expression_place e) (kind_in c l e)) _
      h in
      let part = parts (r.broken_in_expression [] one app c l e) _ both.0 in
      let x = expression_typed l e a u f part.0 in
      (x.0, x.2, no_handle (expression_place e) (kind_in c l e) x.0 x.1 part.1)

  items_typed : (l : Locals) (left : ℕ) (found : All) (xs : List PrintItem) → AllKinded l → Fine (items_uses n xs)
      → IsTrue (list_all item_small xs) → s.items_by [] one app c l left found xs ≡ []
      → (found ≡ []) × ItemsTyped c l xs
  items_typed l left found [] a u f h = (h, tt)
  items_typed l left found (x ∷ xs) a u f h =
      let us = broken_parts named (item_uses n x) (items_uses n xs) u in
      let fs = and_parts (item_small x) (list_all item_small xs) f in
      let rest = items_typed l (left - 1) (found ++ s.item_by [] one app c l left x) xs a us.1 fs.1 h in
      let here = parts found _ rest.0 in
      (here.0, (item_typed l left x a us.0 fs.0 here.1, rest.1))

  return_typed : (l : Locals) (result : Option ValueKind) (at : ℕ) (e : Option Expression) → AllKinded l
      → Fine (value_uses n e) → IsTrue (statement_form_small (return e)) → s.return_by [] one app c l result at e ≡ []
      → ReturnTyped c l result e
  return_typed l None at None a u f h = tt
  return_typed l None at (Some e) a u f h =
      absurd (let d : one _ ≡ [] = (parts (r.broken_in_expression [] one app c l e) _ h).1 in cc)
  return_typed l (Some t) at None a u f h = absurd (let d : s.return_by [] one app c l (Some t) at None ≡ [] = h in cc)
  return_typed l (Some t) at (Some e) a u f h = part_typed l e t a u f h

  assign_typed : (l : Locals) (w : PlacedName) (x : RightSide) → AllKinded l → Fine (right_side_uses n x)
      → IsTrue (right_side_small x) → s.assign_by [] one app c l w x ≡ []
      → StatementFormTyped c None l (assign w x) l
  assign_typed l w x a u f h =
      let both = parts (r.scalar_use [] one app w (find w.text l) (c.shared w.text)) _ h in
      let name = scalar_sound w (find w.text l) (c.shared w.text) (a w.text) both.0 in
      let right = parts (r.broken_in_right_side [] one app c l x) _ both.1 in
      let value = right_side_typed l x a u f right.0 in
      let same_kinds =
      alike_is (right_side_place x) (name_kind (find w.text l) (c.shared w.text)) (right_side_kind c l x) name.0 value.0
      name.1 value.1 right.1 in
      ((name.0, name.2, subst (λ t. RightSideHas c l x t) same_kinds value.2), refl)

  cell_typed : (l : Locals) (w : PlacedName) (index e : Expression) → AllKinded l
      → Fine (expression_uses n index ++ expression_uses n e) → IsTrue (expression_small index)
      → IsTrue (expression_small e) → s.cell_by [] one app c l w index e ≡ []
      → StatementFormTyped c None l (assign_cell w index e) l
  cell_typed l w index e a u f g h =
      let us = broken_parts named (expression_uses n index) (expression_uses n e) u in
      let both = parts (r.array_use [] one app w (find w.text l) (c.shared w.text)) _ h in
      let name = array_sound w (find w.text l) (c.shared w.text) both.0 in
      let more = parts (r.part_by [] one app c l index k.Int) _ both.1 in
      let last = parts (r.broken_in_expression [] one app c l e) _ more.1 in
      let value = expression_typed l e a us.1 g last.0 in
      let same_kinds =
      alike_is (expression_place e) (name_kind (find w.text l) (c.shared w.text)) (kind_in c l e) name.0 value.0 name.1
      value.1 last.1 in (
        (name.0, name.2, part_typed l index k.Int a us.0 f more.0, subst (λ t. HasKind c l e t) same_kinds value.2),
        refl,
      )

  bind_typed : (l : Locals) (left : ℕ) (w : PlacedName) (x : RightSide) → AllKinded l → Fine (right_side_uses n x)
      → IsTrue (right_side_small x) → s.bind_by [] one app c l left w x ≡ []
      → StatementFormTyped c None l (bind w x) (scopes.bound c l w x) × AllKinded (scopes.bound c l w x)
  bind_typed l left w x a u f h =
      let both = parts (r.broken_in_right_side [] one app c l x) _ h in
      let value = right_side_typed l x a u f both.0 in
      let fresh =
      new_is w (find w.text l) (c.shared w.text)
      (parts (s.new_local [] one app w (find w.text l) (c.shared w.text)) _ both.1).0 in (
        (fresh, (value.0, value.2, ap (λ o. added l w.text o) value.1)),
        subst (λ o. AllKinded (added l w.text o)) (sym value.1) (kinded_added l w.text value.0 a),
      )

  mutual
    statement_typed : (result : Option ValueKind) (l : Locals) (left : ℕ) (x : Statement) → AllKinded l
        → Fine (statement_uses n x) → IsTrue (statement_small x)
        → s.broken_in_statement [] one app c result l left x ≡ []
        → StatementTyped c result l x (scopes.locals_after c l x) × AllKinded (scopes.locals_after c l x)
    statement_typed result l left (statement at line form) a u f h = statement_form_typed result l left at form a u f h

    statement_form_typed : (result : Option ValueKind) (l : Locals) (left at : ℕ) (x : StatementForm) → AllKinded l
        → Fine (statement_form_uses n x) → IsTrue (statement_form_small x)
        → s.broken_in_statement_form [] one app c result l left at x ≡ []
        → StatementFormTyped c result l x (scopes.statement_form_locals c l x)
        × AllKinded (scopes.statement_form_locals c l x)
    statement_form_typed result l left at (bind w x) a u f h =
        bind_typed l left w x a u (and_parts (name_formed w) (right_side_small x) f).1 h
    statement_form_typed result l left at (assign w x) a u f h =
        (assign_typed l w x a u (and_parts (name_formed w) (right_side_small x) f).1 h, a)
    statement_form_typed result l left at (assign_cell w index e) a u f h =
        let fs = and_parts (name_formed w && expression_small index) (expression_small e) f in
        (cell_typed l w index e a u (and_parts (name_formed w) (expression_small index) fs.0).1 fs.1 h, a)
    statement_form_typed result l left at (choose arms) a u f h =
        (((arms_typed result l left [] arms a u f h).1, refl), a)
    statement_form_typed result l left at (choose_or arms last) a u f h =
        let us = broken_parts named (arms_uses n arms) (statements_uses n last) u in
        let fs = and_parts (arms_small arms) (statements_small last) f in
        let both = parts (s.broken_in_arms [] one app c result l left [] arms) _ h in (
          (
            (
              (arms_typed result l left [] arms a us.0 fs.0 both.0).1,
              statements_typed result l (s.left_arms left arms) [] last a us.1 fs.1 both.1,
            ),
            refl,
          ),
          a,
        )
    statement_form_typed result l left at (repeat test body) a u f h =
        let us = broken_parts named (expression_uses n test) (statements_uses n body) u in
        let fs = and_parts (expression_small test) (statements_small body) f in
        let both = parts (r.part_by [] one app c l test k.Bool) _ h in (
          (
            (part_typed l test k.Bool a us.0 fs.0 both.0, statements_typed result l left [] body a us.1 fs.1 both.1),
            refl,
          ),
          a,
        )
    statement_form_typed result l left at (call w args) a u f h =
        ((call_typed l w args a u (and_parts (name_formed w) (expressions_small args) f).1 h, refl), a)
    statement_form_typed result l left at (return e) a u f h = ((return_typed l result at e a u f h, refl), a)
    statement_form_typed result l left at (fork w args) a u f h =
        ((call_typed l w args a u (and_parts (name_formed w) (expressions_small args) f).1 h, refl), a)
    statement_form_typed result l left at (join e) a u f h = ((part_typed l e k.Rev a u f h, refl), a)
    statement_form_typed result l left at (print items) a u f h =
        (((items_typed l (first_past limits.Items) [] items a u f h).1, refl), a)
    statement_form_typed result l left at (assert e) a u f h = ((part_typed l e k.Bool a u f h, refl), a)

    pub statements_typed : (result : Option ValueKind) (l : Locals) (left : ℕ) (found : All) (ss : Statements)
        → AllKinded l → Fine (statements_uses n ss) → IsTrue (statements_small ss)
        → s.broken_in_statements [] one app c result l left found ss ≡ [] → StatementsTyped c result l ss
    statements_typed result l left found no_statements a u f h = tt
    statements_typed result l left found (statements x rest) a u f h =
        let us = broken_parts named (statement_uses n x) (statements_uses n rest) u in
        let fs = and_parts (statement_small x) (statements_small rest) f in
        let before =
        statements_before c result (scopes.locals_after c l x) (s.left_after left x)
        (found ++ s.broken_in_statement [] one app c result l left x) rest h in
        let here = statement_typed result l left x a us.0 fs.0 (parts found _ before).1 in (
          scopes.locals_after c l x,
          here.0,
          statements_typed result (scopes.locals_after c l x) (s.left_after left x) _ rest here.1 us.1 fs.1 h,
        )

    arms_typed : (result : Option ValueKind) (l : Locals) (left : ℕ) (found : All) (xs : Arms) → AllKinded l
        → Fine (arms_uses n xs) → IsTrue (arms_small xs)
        → s.broken_in_arms [] one app c result l left found xs ≡ [] → (found ≡ []) × ArmsTyped c result l xs
    arms_typed result l left found no_arms a u f h = (h, tt)
    arms_typed result l left found (arm test body rest) a u f h =
        let us = broken_parts named (expression_uses n test ++ statements_uses n body) (arms_uses n rest) u in
        let vs = broken_parts named (expression_uses n test) (statements_uses n body) us.0 in
        let fs = and_parts (expression_small test && statements_small body) (arms_small rest) f in
        let gs = and_parts (expression_small test) (statements_small body) fs.0 in
        let more = arms_typed result l (s.left_statements left body) _ rest a us.1 fs.1 h in
        let here = parts found _ more.0 in
        let both = parts (r.part_by [] one app c l test k.Bool) _ here.1 in (
          here.0,
          (
            part_typed l test k.Bool a vs.0 gs.0 both.0,
            statements_typed result l left [] body a vs.1 gs.1 both.1,
            more.1,
          ),
        )

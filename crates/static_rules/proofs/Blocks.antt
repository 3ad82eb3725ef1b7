-- The faults of a statement, from where it stands and back.
use Rattle.std.proofs.Common.{◌≡◌, ◌∙◌, inl, inr, ℕ, ◌+◌, ◌-◌, nat_eq, Option, Some, None, List, [], ◌∷◌, ◌++◌, slice_get, length, append_assoc, refl, sym, ap, subst, arith}
use Rattle.rev_num.specs.declared.value.ValueKind.{ValueKind}
use Rattle.rev_num.specs.declared.value.ValueKind.TheVariants as k
use Rattle.rev_syntax.specs.Trees.{PlacedName, Parameter, Expression, Expressions, RightSide, plain, called, forked, tried, PrintItem, text, shown, Statement, statement, StatementForm, bind, assign, assign_cell, choose, choose_or, repeat, call, return, fork, join, print, assert, Statements, no_statements, statements, Arms, no_arms, arm, ProgramTree}
use Rattle.typed_programs.specs.FunRules.{count}
use Rattle.typed_programs.specs.Least.{Among}
use Rattle.name_tables.specs.Table.{find}
use Rattle.rev_report.specs.declared.limit.Limit.TheVariants as limits
use Rattle.typed_programs.specs.declared.fault.TypeFault.{TypeFault}
use Rattle.typed_programs.specs.declared.fault.TypeFault.TheVariants.{Redeclared}
use Rattle.typed_programs.specs.declared.names.Holder.{Holder}
use Rattle.rev_report.specs.Limits.{first_past}
use Rattle.typed_programs.specs.Faults.{exceeded}
use Rattle.typed_programs.specs.Kinds.{Callee, kind_in, name_kind, right_side_kind, right_side_place, expression_place}
use Rattle.typed_programs.specs.Rules as r
use Rattle.typed_programs.proofs.Lists.{unequal}
use Rattle.typed_programs.proofs.Typings.{All, one, app}
use Rattle.typed_programs.specs.Statements as s
use Rattle.typed_programs.specs.Scopes as scopes
use Rattle.typed_programs.specs.Limits.{statement_lets, statements_lets, arms_lets}
use Rattle.typed_programs.proofs.StatementsFaults.{AllAre, all_none, all_both, all_at}
use Rattle.typed_programs.proofs.StatementsWithin.{statements_left}
use Rattle.static_rules.specs.Places.{IsBehind, Site, ArmOf, first_arm, later_arm, Lies, next, in_arm, in_else, Stands, Occurs, in_statement_form, written, written_cell, tested, asserted, joined, try_joined, returned, written_at, written_value, call_argument, printed, Wanted, expressions_of, right_side_expressions, item_expressions, arm_expressions, right_side_of, right_side_call, call_of}
use Rattle.static_rules.specs.Breaks.{Breaks, unknown_procedure, let_again, other_kind, other_right_side, no_result, return_without, return_with, other_count, local_let, too_many_items}
use Rattle.static_rules.proofs.Gathers.{not_none, given_by, all_one, all_unless, all_alike}
use Rattle.static_rules.proofs.Expressions.{counts, given, wanted_all, handle_all, scalar_all, array_all, expression_all, args_all}

-- ---- places in lists

pub behind_by : {A : Type 0} (before : List A) (x : A) (behind all : List A) → all ≡ before ++ x ∷ behind
    → IsBehind before x all
behind_by before x behind all e = record { rest = behind; parts = e }

pub among_behind : {A : Type 0} (before : List A) (x : A) (behind : List A) → Among (before ++ x ∷ behind) x
among_behind [] x behind = inl refl
among_behind (y ∷ before) x behind = inr (among_behind before x behind)

pub among_at : {A : Type 0} (before : List A) (x : A) (xs : List A) → IsBehind before x xs → Among xs x
among_at before x xs h = subst (λ l. Among l x) (sym h.parts) (among_behind before x h.rest)

pub behind_of : {A : Type 0} (xs : List A) (x : A) → Among xs x → (before : List A) × IsBehind before x xs
behind_of [] x m = absurd m
behind_of (y ∷ ys) x (inl is) = ([], record { rest = ys; parts = λ i. is i ∷ ys })
behind_of (y ∷ ys) x (inr m) =
    let g = behind_of ys x m in (y ∷ g.0, record { rest = g.1.rest; parts = ap (λ l. y ∷ l) g.1.parts })

-- one further
pub further : {A : Type 0} (all before : List A) (x : A) (xs : List A) → all ≡ before ++ x ∷ xs
    → all ≡ (before ++ x ∷ []) ++ xs
further all before x xs e = e ∙ sym (append_assoc before (x ∷ []) xs)

pub longer : {A : Type 0} (before : List A) (x : A) → length (before ++ x ∷ []) ≡ length before + 1
longer [] x = omega arith
longer (y ∷ before) x = let h = longer before x in omega arith

item_expression : (xs : List PrintItem) (e : Expression) → Among xs (shown e) → Among (item_expressions xs) e
item_expression [] e m = absurd m
item_expression (text at bytes ∷ xs) e (inl is) = cc
item_expression (text at bytes ∷ xs) e (inr m) = item_expression xs e m
item_expression (shown x ∷ xs) e (inl is) = inl (let q : x ≡ e = cc in q)
item_expression (shown x ∷ xs) e (inr m) = inr (item_expression xs e m)

arm_expression : {arms : Arms} {m : ℕ} {t : Expression} {b : Statements} → ArmOf arms m t b
    → Among (arm_expressions arms) t
arm_expression (first_arm t b rest) = inl refl
arm_expression (later_arm t s h) = inr (arm_expression h)

pub no_arm : {m : ℕ} {t : Expression} {b : Statements} → ArmOf no_arms m t b → ⊥
no_arm h = elim h [ ]

-- ---- how many locals are left

next_left : (n left m a : ℕ) → left ≡ 65 - n → m ≡ left - (a + 0) → m ≡ 65 - (n + a)
next_left n left m a e h = omega arith

pub statement_left : (n left : ℕ) (x : Statement) → left ≡ 65 - n → s.left_after left x ≡ 65 - (n + statement_lets x)
statement_left n left x e =
    next_left n left (s.left_after left x) (statement_lets x) e (statements_left left (statements x no_statements))

pub arms_left : (n left : ℕ) (arms : Arms) → left ≡ 65 - n → s.left_arms left arms ≡ 65 - (n + arms_lets arms)
arms_left n left arms e =
    next_left n left (s.left_arms left arms) (arms_lets arms) e
    (statements_left left (statements (statement 0 0 (choose arms)) no_statements))

block_left : (n left : ℕ) (body : Statements) → left ≡ 65 - n
    → s.left_statements left body ≡ 65 - (n + statements_lets body)
block_left n left body e = let h = statements_left left body in omega arith

pub last_left : (n left : ℕ) → left ≡ 65 - n → left ≡ 1 → n ≡ 64
last_left n left e h = omega arith

-- ---- all that a statement breaks

module _ (p : ProgramTree) where
  part_all : (i : Site) (e : Expression) (t : ValueKind) → Occurs p i.names i.locals e → Wanted p i.names i.locals e t
      → AllAre (Breaks p) (r.part_by [] one app i.names i.locals e t)
  part_all i e t o w =
      all_both (Breaks p) _ _ (expression_all p i.names i.locals e o) (wanted_all p i.names i.locals e t w)

  module _ (i : Site) (form : StatementForm) (st : Stands p i form) where
    callee_all : (w : PlacedName) (args : Expressions) → call_of form ≡ Some (w, args)
        → AllAre (Breaks p) (r.callee_use [] one app w (count args) (i.names.procs w.text))
    callee_all w args co = by (i.names.procs w.text) refl
      where
        by : (o : Option Callee) → i.names.procs w.text ≡ o
            → AllAre (Breaks p) (r.callee_use [] one app w (count args) o)
        by None e = all_one (Breaks p) _ (unknown_procedure st co e)
        by (Some f) e =
            all_unless (Breaks p) (nat_eq (count args) (length f.params)) _
            (λ d. other_count st co e (λ q. unequal (count args) (length f.params) d (sym (counts args) ∙ q)))

    given_wanted : (w : PlacedName) (args : Expressions) → call_of form ≡ Some (w, args)
        → (j : ℕ) (e : Expression) (q : Parameter) → slice_get (expressions_of args) j ≡ Some e
        → slice_get (r.params_of [] one app (i.names.procs w.text)) (0 + j) ≡ Some q
        → Wanted p i.names i.locals e q.kind
    given_wanted w args co j e q a d =
        let z : 0 + j ≡ j = omega arith in
        let g = given_by (i.names.procs w.text) j q
        (subst (λ m. slice_get (r.params_of [] one app (i.names.procs w.text)) m ≡ Some q) z d) in
        call_argument {f = g.0} q st co g.1 (given (expressions_of args) g.0.params j e q a g.2)

    call_all : (w : PlacedName) (args : Expressions) → call_of form ≡ Some (w, args)
        → ((e : Expression) → Among (expressions_of args) e → Occurs p i.names i.locals e)
        → AllAre (Breaks p) (r.call_by [] one app i.names i.locals w args)
    call_all w args co o =
        all_both (Breaks p) _ _ (callee_all w args co)
        (args_all p i.names i.locals (r.params_of [] one app (i.names.procs w.text)) 0 [] args (all_none (Breaks p)) o
        (given_wanted w args co))

    result_all : (at : ℕ) (w : PlacedName) (args : Expressions) → right_side_of form ≡ Some (called at w args)
        → AllAre (Breaks p) (r.result_use [] one app w.at (i.names.procs w.text))
    result_all at w args ro = by (i.names.procs w.text) refl
      where
        of_kind : (f : Callee) (t : Option ValueKind) → i.names.procs w.text ≡ Some f → f.result ≡ t
            → AllAre (Breaks p) (r.has_result [] one app w.at t)
        of_kind f None e d = all_one (Breaks p) _ (no_result st ro e d)
        of_kind f (Some t) e d = all_none (Breaks p)

        by : (o : Option Callee) → i.names.procs w.text ≡ o → AllAre (Breaks p) (r.result_use [] one app w.at o)
        by None e = all_none (Breaks p)
        by (Some f) e = of_kind f f.result e refl

    right_side_all : (x : RightSide) → right_side_of form ≡ Some x → call_of form ≡ right_side_call x
        → ((e : Expression) → Among (right_side_expressions x) e → Occurs p i.names i.locals e)
        → AllAre (Breaks p) (r.broken_in_right_side [] one app i.names i.locals x)
    right_side_all (plain e) ro co o = expression_all p i.names i.locals e (o e (inl refl))
    right_side_all (called at w args) ro co o = all_both (Breaks p) _ _ (result_all at w args ro) (call_all w args co o)
    right_side_all (forked at w args) ro co o = call_all w args co o
    right_side_all (tried at e) ro co o = part_all i e k.Rev (o e (inl refl)) (try_joined st ro)

  new_all : (P : TypeFault → Type 0) (w : PlacedName) (o : Option (Option ValueKind)) (h : Option Holder)
      → (((o ≡ None) × (h ≡ None) → ⊥) → P (Redeclared w.at)) → AllAre P (s.new_local [] one app w o h)
  new_all P w (Some x) h g = all_one P _ (g (λ b. not_none x b.0))
  new_all P w None (Some h) g = all_one P _ (g (λ b. not_none h b.1))
  new_all P w None None g = all_none P

  item_all : (i : Site) (all before : List PrintItem) (x : PrintItem) (xs : List PrintItem) (left : ℕ)
      → Stands p i (print all) → all ≡ before ++ x ∷ xs → left ≡ 65 - length before
      → AllAre (Breaks p) (s.item_by [] one app i.names i.locals left x)
  item_all i all before (text at bytes) xs left st e h =
      all_at (Breaks p) left (exceeded at limits.Items)
      (λ d. too_many_items {before = before} {x = text at bytes} st (behind_by before _ xs all e)
      (last_left (length before) left h d))
  item_all i all before (shown x) xs left st e h =
      let m = among_at before (shown x) all (behind_by before _ xs all e) in
      all_both (Breaks p) _ _ (all_both (Breaks p) _ _
      (expression_all p i.names i.locals x (in_statement_form st (item_expression all x m)))
      (handle_all p i.names i.locals x (printed st m)))
      (all_at (Breaks p) left (exceeded (expression_place x) limits.Items)
      (λ d. too_many_items {before = before} {x = shown x} st (behind_by before _ xs all e)
      (last_left (length before) left h d)))

  items_all : (i : Site) (all before xs : List PrintItem) (left : ℕ) (found : All) → Stands p i (print all)
      → all ≡ before ++ xs → left ≡ 65 - length before
      → AllAre (Breaks p) found → AllAre (Breaks p) (s.items_by [] one app i.names i.locals left found xs)
  items_all i all before [] left found st e h a = a
  items_all i all before (x ∷ xs) left found st e h a =
      items_all i all (before ++ x ∷ []) xs (left - 1) _ st (further all before x xs e)
      (let g = longer before x in let d : left - 1 ≡ 65 - length (before ++ x ∷ []) = omega arith in d)
      (all_both (Breaks p) _ _ a (item_all i all before x xs left st e h))

  return_all : (i : Site) (o : Option ValueKind) (e : Option Expression) (st : Stands p i (return e)) → i.result ≡ o
      → AllAre (Breaks p) (s.return_by [] one app i.names i.locals o st.at e)
  return_all i None None st h = all_none (Breaks p)
  return_all i None (Some e) st h =
      all_both (Breaks p) _ _ (expression_all p i.names i.locals e (in_statement_form st (inl refl)))
      (all_one (Breaks p) _ (return_with st h))
  return_all i (Some t) None st h = all_one (Breaks p) _ (return_without st h)
  return_all i (Some t) (Some e) st h = part_all i e t (in_statement_form st (inl refl)) (returned st h)

  bind_all : (i : Site) (left : ℕ) (w : PlacedName) (x : RightSide) → left ≡ 65 - i.before → Stands p i (bind w x)
      → AllAre (Breaks p) (s.bind_by [] one app i.names i.locals left w x)
  bind_all i left w x h st =
      all_both (Breaks p) _ _ (right_side_all i (bind w x) st x refl refl (λ e m. in_statement_form st m))
      (all_both (Breaks p) _ _
      (new_all (Breaks p) w (find w.text i.locals) (i.names.shared w.text) (λ g. let_again st g))
      (all_at (Breaks p) left (exceeded w.at limits.Locals) (λ d. local_let st (last_left i.before left h d))))

  assign_all : (i : Site) (w : PlacedName) (x : RightSide) → Stands p i (assign w x)
      → AllAre (Breaks p) (s.assign_by [] one app i.names i.locals w x)
  assign_all i w x st =
      all_both (Breaks p) _ _ (scalar_all p i.names i.locals w (written st))
      (all_both (Breaks p) _ _ (right_side_all i (assign w x) st x refl refl (λ e m. in_statement_form st m))
      (all_alike (Breaks p) (right_side_place x) (name_kind (find w.text i.locals) (i.names.shared w.text))
      (right_side_kind i.names i.locals x) (λ t u a b d. other_right_side st a b d)))

  cell_all : (i : Site) (w : PlacedName) (y e : Expression) → Stands p i (assign_cell w y e)
      → AllAre (Breaks p) (s.cell_by [] one app i.names i.locals w y e)
  cell_all i w y e st =
      all_both (Breaks p) _ _ (array_all p i.names i.locals w (written_cell st))
      (all_both (Breaks p) _ _ (part_all i y k.Int (in_statement_form st (inl refl)) (written_at st))
      (all_both (Breaks p) _ _ (expression_all p i.names i.locals e (in_statement_form st (inr (inl refl))))
      (all_alike (Breaks p) (expression_place e) (name_kind (find w.text i.locals) (i.names.shared w.text))
      (kind_in i.names i.locals e) (λ t u a b d. other_kind (written_value st a) b d))))

  mutual
    pub statements_all : (i : Site) (left : ℕ) (found : All) (ss : Statements) → left ≡ 65 - i.before → Lies p i ss
        → AllAre (Breaks p) found
        → AllAre (Breaks p) (s.broken_in_statements [] one app i.names i.result i.locals left found ss)
    statements_all i left found no_statements h o a = a
    statements_all i left found (statements x rest) h o a =
        statements_all
        (record i { locals = scopes.locals_after i.names i.locals x; before = i.before + statement_lets x })
        (s.left_after left x) _ rest (statement_left i.before left x h) (next o)
        (all_both (Breaks p) _ _ a (statement_all i left x rest h o))

    statement_all : (i : Site) (left : ℕ) (x : Statement) (rest : Statements) → left ≡ 65 - i.before
        → Lies p i (statements x rest)
        → AllAre (Breaks p) (s.broken_in_statement [] one app i.names i.result i.locals left x)
    statement_all i left (statement at line form) rest h o =
        statement_form_all i left form h (record { at = at; line = line; rest = rest; lies = o })

    statement_form_all : (i : Site) (left : ℕ) (form : StatementForm) → left ≡ 65 - i.before → (st : Stands p i form)
        → AllAre (Breaks p) (s.broken_in_statement_form [] one app i.names i.result i.locals left st.at form)
    statement_form_all i left (bind w x) h st = bind_all i left w x h st
    statement_form_all i left (assign w x) h st = assign_all i w x st
    statement_form_all i left (assign_cell w y e) h st = cell_all i w y e st
    statement_form_all i left (choose arms) h st =
        arms_all i left [] arms h
        (λ m t b a. part_all i t k.Bool (in_statement_form st (arm_expression a)) (tested st a))
        (λ m t b a. in_arm st.lies a) (all_none (Breaks p))
    statement_form_all i left (choose_or arms last) h st =
        all_both (Breaks p) _ _
        (arms_all i left [] arms h
        (λ m t b a. part_all i t k.Bool (in_statement_form st (arm_expression a)) (tested st a))
        (λ m t b a. in_arm st.lies a) (all_none (Breaks p)))
        (statements_all (record i { before = i.before + arms_lets arms }) (s.left_arms left arms) [] last
        (arms_left i.before left arms h) (in_else st.lies) (all_none (Breaks p)))
    statement_form_all i left (repeat t body) h st =
        all_both (Breaks p) _ _
        (part_all i t k.Bool (in_statement_form st (inl refl)) (tested st (first_arm t body no_arms)))
        (statements_all (record i { before = i.before + 0 }) left [] body
        (let d : left ≡ 65 - (i.before + 0) = omega arith in d) (in_arm st.lies (first_arm t body no_arms))
        (all_none (Breaks p)))
    statement_form_all i left (call w args) h st =
        call_all i (call w args) st w args refl (λ e m. in_statement_form st m)
    statement_form_all i left (return e) h st = return_all i i.result e st refl
    statement_form_all i left (fork w args) h st =
        call_all i (fork w args) st w args refl (λ e m. in_statement_form st m)
    statement_form_all i left (join e) h st = part_all i e k.Rev (in_statement_form st (inl refl)) (joined st)
    statement_form_all i left (print xs) h st =
        items_all i xs [] xs (first_past limits.Items) [] st refl refl (all_none (Breaks p))
    statement_form_all i left (assert e) h st = part_all i e k.Bool (in_statement_form st (inl refl)) (asserted st)

    arms_all : (i : Site) (left : ℕ) (found : All) (arms : Arms) → left ≡ 65 - i.before
        → ((m : ℕ) (t : Expression) (b : Statements) → ArmOf arms m t b
        → AllAre (Breaks p) (r.part_by [] one app i.names i.locals t k.Bool))
        → ((m : ℕ) (t : Expression) (b : Statements) → ArmOf arms m t b → Lies p (record i { before = i.before + m }) b)
        → AllAre (Breaks p) found
        → AllAre (Breaks p) (s.broken_in_arms [] one app i.names i.result i.locals left found arms)
    arms_all i left found no_arms h o g a = a
    arms_all i left found (arm t body rest) h o g a =
        arms_all (record i { before = i.before + statements_lets body }) (s.left_statements left body) _ rest
        (block_left i.before left body h) (λ m t' b d. o (statements_lets body + m) t' b (later_arm t body d))
        (λ m t' b d.
        subst (λ j. Lies p (record i { before = j }) b)
        (let q : i.before + (statements_lets body + m) ≡ i.before + statements_lets body + m = omega arith in q)
        (g (statements_lets body + m) t' b (later_arm t body d)))
        (all_both (Breaks p) _ _ a (all_both (Breaks p) _ _ (o 0 t body (first_arm t body rest))
        (statements_all (record i { before = i.before + 0 }) left [] body
        (let d : left ≡ 65 - (i.before + 0) = omega arith in d) (g 0 t body (first_arm t body rest))
        (all_none (Breaks p)))))

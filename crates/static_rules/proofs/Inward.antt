-- What a statement or an expression of a program breaks is in the checker's list.
use Rattle.std.proofs.Common.{◌≡◌, ◌∙◌, inl, inr, ℕ, ◌+◌, ◌-◌, Bool, true, false, Option, Some, List, [], ◌∷◌, ◌++◌, slice_get, refl, sym, ap, subst, arith}
use Rattle.std.specs.List.{zip}
use Rattle.rev_num.specs.declared.value.ValueKind.{ValueKind}
use Rattle.rev_syntax.specs.Trees.{tried, PlacedName, Parameter, Expression, Expressions, link, PrintItem, shown, statement, StatementForm, choose_or, assign, assign_cell, return, join, print, assert, Statements, Declaration, fun, merge, proc, ProgramTree}
use Rattle.typed_programs.specs.Least.{Among}
use Rattle.name_tables.specs.Table.{find}
use Rattle.typed_programs.specs.Kinds.{Callee, Names, Locals, kind_in, name_kind, expression_place}
use Rattle.typed_programs.specs.Rules as r
use Rattle.typed_programs.proofs.Typings.{All, one, app}
use Rattle.typed_programs.specs.Statements as s
use Rattle.typed_programs.specs.Scopes as scopes
use Rattle.typed_programs.specs.Program as d
use Rattle.typed_programs.proofs.DeclsWithin.{params_left as left_params}
use Rattle.static_rules.specs.Places.{IsBehind, Declares, Site, Lies, in_proc, in_main, next, in_arm, in_else, Stands, Occurs, in_fun, in_merge, in_statement_form, in_part, Uses, read, read_cell, written, written_cell, Wanted, fun_body, merge_body, tested, asserted, joined, try_joined, returned, written_at, written_value, call_argument, fun_argument, at_index, at_position, picked_by, picked_last, operand, on_left, on_right, compared, NoHandle, fun_value, printed, compared_first, expressions_of}
use Rattle.static_rules.proofs.Gathers.{Is, In, in_left, in_right_side, in_left_operand, in_left_handle, in_right_side_operand, in_right_side_alike}
use Rattle.static_rules.proofs.Expressions.{arg_in, given_at, links_found, link_in, part_in}
use Rattle.static_rules.proofs.Blocks.{behind_of, statement_left, arms_left}
use Rattle.static_rules.proofs.Back.{statement_in, rest_in, block_in, statement_form_expression_in, right_side_in, call_in, items_found}

-- ---- declarations

declarations_found : (outer inner : Names) (q : d.Passed) (found : All) (es : List Declaration)
    → In found (d.broken_in_declarations [] one app outer inner q found es)
declarations_found outer inner q found [] f m = m
declarations_found outer inner q found (x ∷ es) f m =
    declarations_found outer inner (d.passed_with q x) _ es f (in_left found _ f m)

entry_in : (outer inner : Names) (q : d.Passed) (found : All) (before : List Declaration) (e : Declaration)
    (behind : List Declaration)
    → In (d.broken_in_declaration [] one app outer inner (d.passed_all q before) e)
    (d.broken_in_declarations [] one app outer inner q found (before ++ e ∷ behind))
entry_in outer inner q found [] e behind f m =
    declarations_found outer inner (d.passed_with q e) _ behind f (in_right_side found _ f m)
entry_in outer inner q found (x ∷ before) e behind f m = entry_in outer inner (d.passed_with q x) _ before e behind f m

module _ (p : ProgramTree) where
  abbrev outer : Names
  outer = scopes.outside p.declarations

  abbrev inner : Names
  inner = scopes.within p.declarations

  -- what the declarations before these declare
  abbrev pub met : List Declaration → d.Passed
  met before = d.passed_all d.nothing_passed before

  pub at_declaration : (before : List Declaration) (e : Declaration) → IsBehind before e p.declarations
      → In (d.broken_in_declaration [] one app outer inner (met before) e) (d.faults p)
  at_declaration before e b f m =
      in_left (d.broken_in_declarations [] one app outer inner d.nothing_passed [] p.declarations) _ f
      (subst (λ l. Is (d.broken_in_declarations [] one app outer inner d.nothing_passed [] l) f) (sym b.parts)
      (entry_in outer inner d.nothing_passed [] before e b.rest f m))

  -- the declarations before one of these
  abbrev pub before_it : (e : Declaration) → Declares p e → List Declaration
  before_it e m = (behind_of p.declarations e m.among).0

  pub of_entry : (e : Declaration) (m : Declares p e)
      → In (d.broken_in_declaration [] one app outer inner (met (before_it e m)) e) (d.faults p)
  of_entry e m = at_declaration (before_it e m) e (behind_of p.declarations e m.among).1

  -- ---- statements

  less : (n m : ℕ) → 65 - (n + m) ≡ 65 - n - m
  less n m = omega arith

  pub lies_in : {i : Site} {ss : Statements} → Lies p i ss
      → In (s.broken_in_statements [] one app i.names i.result i.locals (65 - i.before) [] ss) (d.faults p)
  lies_in (in_proc {w = w} {ps = ps} {r = x} {body = body} m) f h =
      of_entry (proc w ps x body) m f
      (in_right_side _ _ f (in_right_side _ _ f
      (subst (λ j. Is (s.broken_in_statements [] one app outer x (scopes.with_params [] ps) j [] body) f)
      (sym (left_params 65 ps)) h)))
  lies_in in_main f h = in_right_side _ _ f h
  lies_in (next {i = i} {s = a} {rest = rest} o) f h =
      lies_in o f (rest_in i.names i.result i.locals (65 - i.before) a rest f
      (subst (λ j.
      Is (s.broken_in_statements [] one app i.names i.result (scopes.locals_after i.names i.locals a) j [] rest) f)
      (sym (statement_left i.before (65 - i.before) a refl)) h))
  lies_in (in_arm {i = i} {at = at} {line = line} {form = form} {rest = rest} {n = m} {test = t} {body = body} o a) f
      h =
      lies_in o f (statement_in i.names i.result i.locals (65 - i.before) (statement at line form) rest f
      (block_in i.names i.result i.locals (65 - i.before) at form a f
      (in_right_side _ _ f
      (subst (λ j. Is (s.broken_in_statements [] one app i.names i.result i.locals j [] body) f) (less i.before m) h))))
  lies_in (in_else {i = i} {at = at} {line = line} {arms = arms} {last = last} {rest = rest} o) f h =
      lies_in o f
      (statement_in i.names i.result i.locals (65 - i.before) (statement at line (choose_or arms last)) rest f
      (in_right_side _ _ f (subst (λ j. Is (s.broken_in_statements [] one app i.names i.result i.locals j [] last) f)
      (sym (arms_left i.before (65 - i.before) arms refl)) h)))

  pub stands_in : (i : Site) (form : StatementForm) (st : Stands p i form)
      → In (s.broken_in_statement_form [] one app i.names i.result i.locals (65 - i.before) st.at form) (d.faults p)
  stands_in i form st f h =
      lies_in st.lies f
      (statement_in i.names i.result i.locals (65 - i.before) (statement st.at st.line form) st.rest f h)

  -- ---- expressions

  pub occurs_in : {c : Names} {l : Locals} {e : Expression} → Occurs p c l e
      → In (r.broken_in_expression [] one app c l e) (d.faults p)
  occurs_in (in_fun {w = w} {ps = ps} {r = x} {e = e} m) f h =
      of_entry (fun w ps x e) m f
      (in_right_side _ _ f (in_right_side _ _ f (in_left _ _ f (in_left _ _ f (in_left _ _ f h)))))
  occurs_in (in_merge {w = w} {m = i} {j = j} {r = x} {e = e} m) f h =
      of_entry (merge w i j x e) m f (in_right_side _ _ f (in_right_side _ _ f (in_left _ _ f (in_left _ _ f h))))
  occurs_in (in_statement_form {i = i} {form = form} {e = e} st m) f h =
      stands_in i form st f (statement_form_expression_in i.names i.result i.locals (65 - i.before) st.at form e m f h)
  occurs_in (in_part {c = c} {l = l} {at = at} {s = a} {e = e} o m) f h = occurs_in o f (part_in c l a e m f h)

  -- what a name breaks that is used with an index or without
  abbrev pub use_by : Names → Locals → PlacedName → Bool → All
  use_by c l w false = r.scalar_use [] one app w (find w.text l) (c.shared w.text)
  use_by c l w true = r.array_use [] one app w (find w.text l) (c.shared w.text)

  pub use_in : {c : Names} {l : Locals} {w : PlacedName} {indexed : Bool} → Uses p c l w indexed
      → In (use_by c l w indexed) (d.faults p)
  use_in (read o) f h = occurs_in o f h
  use_in (read_cell o) f h = occurs_in o f (in_left _ _ f h)
  use_in (written {i = i} {w = w} {x = y} st) f h = stands_in i (assign w y) st f (in_left _ _ f h)
  use_in (written_cell {i = i} {w = w} {index = y} {e = e} st) f h =
      stands_in i (assign_cell w y e) st f (in_left _ _ f h)

  -- what an argument breaks that is given for this parameter
  given_in : (c : Names) (l : Locals) (o : Option Callee) (g : Callee) (args : Expressions) (e : Expression)
      (q : Parameter)
      → o ≡ Some g → Among (zip (expressions_of args) g.params) (e, q)
      → In (r.wants [] one app (expression_place e) (kind_in c l e) q.kind)
      (r.args_by [] one app c l (r.params_of [] one app o) 0 [] args)
  given_in c l o g args e q h i f m =
      let n = given_at (expressions_of args) g.params e q i in
      let z : n.0 ≡ 0 + n.0 = omega arith in
      let param : Some q ≡ slice_get (r.params_of [] one app o) (0 + n.0) =
      sym n.2 ∙ ap (λ j. slice_get g.params j) z ∙ ap (λ y. slice_get (r.params_of [] one app y) (0 + n.0)) (sym h) in
      arg_in c l (r.params_of [] one app o) 0 [] args n.0 e n.1 f
      (in_right_side (r.broken_in_expression [] one app c l e) _ f
      (subst (λ y. Is (r.fits [] one app (expression_place e) (kind_in c l e) y) f) param m))

  abbrev wants_by : Names → Locals → Expression → ValueKind → All
  wants_by c l e t = r.wants [] one app (expression_place e) (kind_in c l e) t

  alike_by : (at : ℕ) (other found : Option ValueKind) (t : ValueKind) → other ≡ Some t
      → In (r.wants [] one app at found t) (r.alike [] one app at other found)
  alike_by at other found t e f m = subst (λ o. Is (r.alike [] one app at o found) f) (sym e) m

  pub wanted_in : {c : Names} {l : Locals} {e : Expression} {t : ValueKind} → Wanted p c l e t
      → In (wants_by c l e t) (d.faults p)
  wanted_in (fun_body {w = w} {ps = ps} {r = x} {e = e} m) f h =
      of_entry (fun w ps x e) m f
      (in_right_side _ _ f (in_right_side _ _ f
      (in_left _ _ f
      (in_left _ _ f (in_right_side (r.broken_in_expression [] one app inner (scopes.with_params [] ps) e) _ f h)))))
  wanted_in (merge_body {w = w} {m = i} {j = j} {r = x} {e = e} m) f h =
      of_entry (merge w i j x e) m f
      (in_right_side _ _ f (in_right_side _ _ f
      (in_left _ _ f (in_right_side (r.broken_in_expression [] one app inner (scopes.merge_locals i j x) e) _ f h))))
  wanted_in (tested {i = i} {form = form} {n = m} {e = e} {body = body} st a) f h =
      stands_in i form st f (block_in i.names i.result i.locals (65 - i.before) st.at form a f
      (in_left _ _ f (in_right_side (r.broken_in_expression [] one app i.names i.locals e) _ f h)))
  wanted_in (asserted {i = i} {e = e} st) f h =
      stands_in i (assert e) st f (in_right_side (r.broken_in_expression [] one app i.names i.locals e) _ f h)
  wanted_in (joined {i = i} {e = e} st) f h =
      stands_in i (join e) st f (in_right_side (r.broken_in_expression [] one app i.names i.locals e) _ f h)
  wanted_in (try_joined {i = i} {at = at} {form = form} {e = e} st ro) f h =
      stands_in i form st f (right_side_in i.names i.result i.locals (65 - i.before) st.at form (tried at e) ro f
      (in_right_side (r.broken_in_expression [] one app i.names i.locals e) _ f h))
  wanted_in (returned {i = i} {t = t} {e = e} st q) f h =
      stands_in i (return (Some e)) st f
      (subst (λ o. Is (s.return_by [] one app i.names i.locals o st.at (Some e)) f) (sym q)
      (in_right_side (r.broken_in_expression [] one app i.names i.locals e) _ f h))
  wanted_in (written_at {i = i} {w = w} {index = y} {e = e} st) f h =
      stands_in i (assign_cell w y e) st f
      (in_right_side _ _ f (in_left _ _ f (in_right_side (r.broken_in_expression [] one app i.names i.locals y) _ f h)))
  wanted_in (written_value {i = i} {w = w} {index = y} {e = e} {t = t} st q) f h =
      stands_in i (assign_cell w y e) st f
      (in_right_side _ _ f
      (in_right_side _ _ f (in_right_side (r.broken_in_expression [] one app i.names i.locals e) _ f
      (alike_by (expression_place e) (name_kind (find w.text i.locals) (i.names.shared w.text))
      (kind_in i.names i.locals e) t q f h))))
  wanted_in (call_argument {i = i} {form = form} {w = w} {args = args} {f = g} {e = e} q st co po y) f h =
      stands_in i form st f (call_in i.names i.result i.locals (65 - i.before) st.at form (w, args) co f
      (in_right_side _ _ f (given_in i.names i.locals (i.names.procs w.text) g args e q po y f h)))
  wanted_in (fun_argument {c = c} {l = l} {at = at} {w = w} {args = args} {f = g} {e = e} q o fo i) f h =
      occurs_in o f (given_in c l (c.funs w.text) g args e q fo i f h)
  wanted_in (at_index {c = c} {l = l} {e = e} o) f h =
      occurs_in o f (in_right_side _ _ f (in_right_side (r.broken_in_expression [] one app c l e) _ f h))
  wanted_in (at_position {c = c} {l = l} {e = e} o) f h =
      occurs_in o f (in_right_side _ _ f (in_right_side (r.broken_in_expression [] one app c l e) _ f h))
  wanted_in (picked_by {c = c} {l = l} {e = e} o) f h =
      occurs_in o f (in_left _ _ f (in_right_side (r.broken_in_expression [] one app c l e) _ f h))
  wanted_in (picked_last {c = c} {l = l} {e = e} {x = x} {y = y} {t = t} o q) f h =
      occurs_in o f (in_right_side _ _ f
      (in_right_side (r.broken_in_expression [] one app c l x ++ r.broken_in_expression [] one app c l y) _ f
      (alike_by (expression_place y) (kind_in c l x) (kind_in c l y) t q f h)))
  wanted_in (operand {c = c} {l = l} {e = e} o) f h =
      occurs_in o f (in_right_side (r.broken_in_expression [] one app c l e) _ f h)
  wanted_in (on_left {c = c} {l = l} {e = e} {x = x} {op = op} {rest = rest} {t = t} o q) f h =
      occurs_in o f (links_found c l (kind_in c l e) (link op x rest) _ f
      (in_right_side (r.broken_in_expression [] one app c l e) _ f
      (in_left_operand op (expression_place e) (kind_in c l e) t q f h)))
  wanted_in (on_right {c = c} {l = l} {e = e} {x = x} op {rest = rest} {t = t} o m q) f h =
      occurs_in o f (link_in c l (kind_in c l x) rest _ (op, e) m f
      (in_right_side (r.broken_in_expression [] one app c l e) _ f
      (in_right_side_operand op (kind_in c l x) (expression_place e) (kind_in c l e) t q f h)))
  wanted_in (compared {c = c} {l = l} {e = e} {x = x} op {rest = rest} {t = t} o m q g) f h =
      occurs_in o f
      (link_in c l (kind_in c l x) rest _ (op, e) m f (in_right_side (r.broken_in_expression [] one app c l e) _ f
      (in_right_side_alike op (kind_in c l x) (expression_place e) (kind_in c l e) q f
      (alike_by (expression_place e) (kind_in c l x) (kind_in c l e) t g f h))))

  item_in : (c : Names) (l : Locals) (n : ℕ) (found : All) (xs : List PrintItem) (e : Expression) → Among xs (shown e)
      → In (r.not_rev [] one app (expression_place e) (kind_in c l e)) (s.items_by [] one app c l n found xs)
  item_in c l n found [] e m f h = absurd m
  item_in c l n found (x ∷ xs) e (inl is) f h =
      items_found c l (n - 1) _ xs f
      (in_right_side found _ f (subst (λ y. Is (s.item_by [] one app c l n y) f) (sym is)
      (in_left _ _ f (in_right_side (r.broken_in_expression [] one app c l e) _ f h))))
  item_in c l n found (x ∷ xs) e (inr m) f h = item_in c l (n - 1) _ xs e m f h

  pub handle_in : {c : Names} {l : Locals} {e : Expression} → NoHandle p c l e
      → In (r.not_rev [] one app (expression_place e) (kind_in c l e)) (d.faults p)
  handle_in (fun_value {w = w} {ps = ps} {r = x} {e = e} m) f h =
      of_entry (fun w ps x e) m f
      (in_right_side _ _ f (in_right_side _ _ f
      (in_left _ _ f (in_right_side (r.part_by [] one app inner (scopes.with_params [] ps) e x) _ f h))))
  handle_in (printed {i = i} {items = xs} {e = e} st m) f h =
      stands_in i (print xs) st f (item_in i.names i.locals 65 [] xs e m f h)
  handle_in (compared_first {c = c} {l = l} {e = e} {x = x} {op = op} {rest = rest} o q) f h =
      occurs_in o f (links_found c l (kind_in c l e) (link op x rest) _ f
      (in_right_side (r.broken_in_expression [] one app c l e) _ f
      (in_left_handle op (expression_place e) (kind_in c l e) q f h)))

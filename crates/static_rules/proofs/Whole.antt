-- The checker's list has exactly the faults of the rules.
use Rattle.std.proofs.Common.{◌≡◌, ◌∙◌, ◌≢◌, inl, inr, ℕ, suc, ◌+◌, ◌-◌, ◌≤◌, ◌<◌, min, Bool, true, false, cond, nat_eq, nat_le, nat_lt, Option, Some, None, is_some, List, [], ◌∷◌, ◌++◌, map, length, refl, sym, ap, subst, arith}
use Rattle.std.proofs.lemmas.Bool.Decides.{nat_tests}
use Rattle.rev_num.specs.declared.value.ValueKind.{ValueKind}
use Rattle.rev_num.specs.declared.value.ValueKind.TheVariants as k
use Rattle.rev_num.specs.Value.{kind_of, same_kind}
use Rattle.rev_syntax.specs.Trees.{PlacedName, Parameter, SharedDeclaration, Expression, Expressions, called, PrintItem, text, shown, StatementForm, bind, assign, return, print, Statements, Declaration, fun, merge, shared, proc, ProgramTree}
use Rattle.typed_programs.specs.FunRules.{count}
use Rattle.typed_programs.specs.Least.{Among}
use Rattle.name_tables.specs.Table.{find, added}
use Rattle.typed_programs.specs.Weights.{expression_weight, weights_after, declaration_weight}
use Rattle.rev_report.specs.declared.limit.Limit.TheVariants as limits
use Rattle.rev_report.specs.Limits.{first_past, most}
use Rattle.typed_programs.specs.declared.fault.TypeFault.{TypeFault}
use Rattle.typed_programs.specs.declared.fault.TypeFault.TheVariants.{UnknownName, Redeclared, WrongType, WrongCount, NoReturn}
use Rattle.typed_programs.specs.declared.names.Holder.{Holder}
use Rattle.typed_programs.specs.Faults.{exceeded}
use Rattle.typed_programs.specs.Kinds.{Callee, Names, Locals, kind_in, name_kind, right_side_kind, right_side_place, expression_place, item_place}
use Rattle.typed_programs.specs.Rules as r
use Rattle.typed_programs.proofs.Lists.{is_equal, is_unequal, known_more}
use Rattle.typed_programs.proofs.Typings.{All, one, app}
use Rattle.typed_programs.specs.Statements as s
use Rattle.typed_programs.specs.Scopes as scopes
use Rattle.typed_programs.specs.Program as d
use Rattle.typed_programs.specs.Judgement.{name_of, word_of, IsMergeOf}
use Rattle.typed_programs.specs.Limits.{cells, procs, funs}
use Rattle.typed_programs.proofs.Weights.{expression_caps}
use Rattle.static_rules.specs.Places.{IsBehind, Declares, Site, Stands, parameter_word, param_words, parameters_of, call_of}
use Rattle.static_rules.specs.Breaks.{Breaks, array_named, IsFun, parameters, unknown_variable, unknown_procedure, unknown_merge, declared_again, parameter_again, parameter_of_shared, let_again, other_kind, is_handle, other_right_side, other_constant, other_use, no_result, cumulative_kind, fun_parameter, fun_result, input_inside, inputs_inside, return_without, return_with, other_count, no_cells, no_return, locations, procedures, declared_funs, local_parameter, local_let, too_many_items, too_heavy}
use Rattle.static_rules.specs.Laws.{Same}
use Rattle.typed_programs.proofs.Returning.{not_ending}
use Rattle.typed_programs.proofs.DeclsWithin.{params_left as left_params}
use Rattle.static_rules.proofs.Gathers.{Is, In, here, in_left, in_right_side, in_when, in_unless, in_wants, in_alike, in_not_rev, in_scalar_unknown, in_array_unknown, in_scalar_other, in_array_other, alike_kinds, not_alike}
use Rattle.static_rules.proofs.Blocks.{behind_of, further}
use Rattle.static_rules.proofs.Back.{right_side_in, call_in, items_found}
use Rattle.static_rules.proofs.Decls.{Met, met_none, met_all, none_there, ++-nil}
use Rattle.static_rules.proofs.Declarations.{Scope, scope_none, scope_next, program_all}
use Rattle.static_rules.proofs.Inward.{met, at_declaration, before_it, of_entry, stands_in, occurs_in, use_by, use_in, wanted_in, handle_in}
use Rattle.static_rules.proofs.Expressions.{counts}

-- ---- the first past a limit

in_at : (left : ℕ) (g : TypeFault) → left ≡ 1 → Is (cond (nat_eq left 1) (g ∷ []) []) g
in_at left g h = in_when (nat_eq left 1) g (is_equal left 1 h)

over_by : (n : ℕ) → n ≡ 256 → (m : ℕ) → m ≡ 257 - n → m ≡ 1
over_by n e m h = omega arith

-- ---- names

in_new : (w : PlacedName) (o : Option (Option ValueKind)) (h : Option Holder) → ((o ≡ None) × (h ≡ None) → ⊥)
    → Is (s.new_local [] one app w o h) (Redeclared w.at)
in_new w (Some x) h g = here (Redeclared w.at)
in_new w None (Some h) g = here (Redeclared w.at)
in_new w None None g = absurd (g (refl, refl))

in_known : (w : PlacedName) (o : Option (Option ValueKind)) (h : Option Holder) → is_some o ≡ true
    → Is (s.new_local [] one app w o h) (Redeclared w.at)
in_known w (Some x) h e = here (Redeclared w.at)
in_known w None h e = none_there e

name_word : (e : Declaration) → name_of e ≡ (word_of e).text
name_word (fun w ps x body) = refl
name_word (merge w m j x body) = refl
name_word (shared x) = refl
name_word (proc w ps x body) = refl

name_in : (outer inner : Names) (q : d.Passed) (e : Declaration)
    → In (d.new_name [] one app (word_of e) q.names) (d.broken_in_declaration [] one app outer inner q e)
name_in outer inner q (fun w ps x body) f h = in_left _ _ f (in_left (d.new_name [] one app w q.names) _ f h)
name_in outer inner q (merge w m j x body) f h = in_left _ _ f (in_left (d.new_name [] one app w q.names) _ f h)
name_in outer inner q (shared x) f h = in_left _ _ f (in_left (d.new_name [] one app x.name q.names) _ f h)
name_in outer inner q (proc w ps x body) f h = in_left _ _ f (in_left (d.new_name [] one app w q.names) _ f h)

-- ---- parameters

fun_found : (l : Locals) (left : ℕ) (found : All) (ps : List Parameter)
    → In found (d.fun_params [] one app l left found ps)
fun_found l left found [] f m = m
fun_found l left found (b ∷ ps) f m =
    fun_found (added l b.name.text (Some b.kind)) (left - 1) _ ps f (in_left found _ f m)

fun_param_in : (l : Locals) (left : ℕ) (found : All) (before : List Parameter) (q : Parameter) (behind : List Parameter)
    → In (d.fun_param [] one app (scopes.with_params l before) (d.left_params left before) q)
    (d.fun_params [] one app l left found (before ++ q ∷ behind))
fun_param_in l left found [] q behind f m =
    fun_found (added l q.name.text (Some q.kind)) (left - 1) _ behind f (in_right_side found _ f m)
fun_param_in l left found (b ∷ before) q behind f m =
    fun_param_in (added l b.name.text (Some b.kind)) (left - 1) _ before q behind f m

fun_at : (ps before : List Parameter) (q : Parameter) → IsBehind before q ps
    → In (d.fun_param [] one app (scopes.with_params [] before) (9 - length before) q)
    (d.fun_params [] one app [] 9 [] ps)
fun_at ps before q b f m =
    subst (λ l. Is (d.fun_params [] one app [] 9 [] l) f) (sym b.parts)
    (fun_param_in [] 9 [] before q b.rest f
    (subst (λ n. Is (d.fun_param [] one app (scopes.with_params [] before) n q) f) (sym (left_params 9 before)) m))

proc_found : (c : Names) (l : Locals) (left locals : ℕ) (found : All) (ps : List Parameter)
    → In found (d.proc_params [] one app c l left locals found ps)
proc_found c l left locals found [] f m = m
proc_found c l left locals found (b ∷ ps) f m =
    proc_found c (added l b.name.text (Some b.kind)) (left - 1) (locals - 1) _ ps f (in_left found _ f m)

proc_param_in : (c : Names) (l : Locals) (left locals : ℕ) (found : All) (before : List Parameter) (q : Parameter)
    (behind : List Parameter)
    → In (d.proc_param [] one app c (scopes.with_params l before) (d.left_params left before)
    (d.left_params locals before) q)
    (d.proc_params [] one app c l left locals found (before ++ q ∷ behind))
proc_param_in c l left locals found [] q behind f m =
    proc_found c (added l q.name.text (Some q.kind)) (left - 1) (locals - 1) _ behind f (in_right_side found _ f m)
proc_param_in c l left locals found (b ∷ before) q behind f m =
    proc_param_in c (added l b.name.text (Some b.kind)) (left - 1) (locals - 1) _ before q behind f m

proc_at : (c : Names) (ps before : List Parameter) (q : Parameter) → IsBehind before q ps
    → In (d.proc_param [] one app c (scopes.with_params [] before) (9 - length before) (65 - length before) q)
    (d.proc_params [] one app c [] 9 65 [] ps)
proc_at c ps before q b f m =
    subst (λ l. Is (d.proc_params [] one app c [] 9 65 [] l) f) (sym b.parts)
    (proc_param_in c [] 9 65 [] before q b.rest f
    (subst (λ n. Is (d.proc_param [] one app c (scopes.with_params [] before) (d.left_params 9 before) n q) f)
    (sym (left_params 65 before))
    (subst (λ n. Is (d.proc_param [] one app c (scopes.with_params [] before) n (65 - length before) q) f)
    (sym (left_params 9 before)) m)))

-- the scope of parameters
scope_all : (l : Locals) (before ps all : List Parameter) → all ≡ before ++ ps → Scope l before
    → Scope (scopes.with_params l ps) all
scope_all l before [] all e f = subst (λ m. Scope l m) (sym (e ∙ ++-nil before)) f
scope_all l before (b ∷ ps) all e f =
    scope_all (added l b.name.text (Some b.kind)) (before ++ b ∷ []) ps all (further all before b ps e)
    (scope_next l before b f)

pub no_behind : {A : Type 0} (before : List A) (x : A) → IsBehind before x [] → ⊥
no_behind [] x b = let h : [] ≡ x ∷ b.rest = b.parts in cc
no_behind (y ∷ before) x b = let h : [] ≡ y ∷ (before ++ x ∷ b.rest) = b.parts in cc

-- a name among the parameters is that of a parameter
split_at : (ps : List Parameter) (before : List PlacedName) (w : PlacedName) (behind : List PlacedName)
    → map parameter_word ps ≡ before ++ w ∷ behind
    → (qs : List Parameter) × (q : Parameter) × IsBehind qs q ps × (map parameter_word qs ≡ before) × (q.name ≡ w)
split_at [] [] w behind e = absurd (let h : [] ≡ w ∷ behind = e in cc)
split_at [] (v ∷ before) w behind e = absurd (let h : [] ≡ v ∷ (before ++ w ∷ behind) = e in cc)
split_at (q ∷ ps) [] w behind e =
    let h : q.name ∷ map parameter_word ps ≡ w ∷ behind = e in ([], q, record { rest = ps; parts = refl }, refl, cc)
split_at (q ∷ ps) (v ∷ before) w behind e =
    let h : q.name ∷ map parameter_word ps ≡ v ∷ (before ++ w ∷ behind) = e in
    let rest : map parameter_word ps ≡ before ++ w ∷ behind = cc in
    let first : q.name ≡ v = cc in
    let g = split_at ps before w behind rest in
    (q ∷ g.0, g.1, record { rest = g.2.rest; parts = ap (λ l. q ∷ l) g.2.parts }, (λ i. first i ∷ g.3 i), g.4)

-- ---- items

item_at : (c : Names) (l : Locals) (left : ℕ) (found : All) (before : List PrintItem) (x : PrintItem)
    (behind : List PrintItem)
    → In (s.item_by [] one app c l (left - length before) x)
    (s.items_by [] one app c l left found (before ++ x ∷ behind))
item_at c l left found [] x behind f m =
    let e : left - 0 ≡ left = omega arith in
    items_found c l (left - 1) _ behind f
    (in_right_side found _ f (subst (λ n. Is (s.item_by [] one app c l n x) f) e m))
item_at c l left found (y ∷ before) x behind f m =
    let e : left - suc (length before) ≡ left - 1 - length before = omega arith in
    item_at c l (left - 1) _ before x behind f (subst (λ n. Is (s.item_by [] one app c l n x) f) e m)

item_limit : (c : Names) (l : Locals) (left : ℕ) (x : PrintItem) → left ≡ 1
    → Is (s.item_by [] one app c l left x) (exceeded (item_place x) limits.Items)
item_limit c l left (text at bytes) e = in_at left (exceeded at limits.Items) e
item_limit c l left (shown y) e =
    in_right_side (r.broken_in_expression [] one app c l y ++ r.not_rev [] one app (expression_place y) (kind_in c l y))
    _ (exceeded (expression_place y) limits.Items) (in_at left (exceeded (expression_place y) limits.Items) e)

-- ---- each rule

heavy : (n m : ℕ) → m ≡ min n (first_past limits.Weight) → most limits.Weight < n → nat_lt (most limits.Weight) m ≡ true
heavy n m e h = let g : most limits.Weight < m = omega arith in grind (arith, nat_tests)

over : (m n c : ℕ) → m ≡ min n 4097 → n ≤ 4096 → 4096 < n + c
    → (nat_le m 4096 ≡ true) × (nat_lt 4096 (d.located_after m (min c 4097)) ≡ true)
over m n c e h g =
    let a : m ≤ 4096 = omega arith in
    let b : 4096 < d.located_after m (min c 4097) = omega arith in
    (grind (arith, nat_tests), grind (arith, nat_tests))

in_tests : (x y : Bool) (g : TypeFault) → x ≡ true → y ≡ true → Is (cond x (cond y (g ∷ []) []) []) g
in_tests true true g a b = here g
in_tests true false g a b = none_there b
in_tests false y g a b = none_there a

module _ (p : ProgramTree) where
  abbrev outer : Names
  outer = scopes.outside p.declarations

  abbrev inner : Names
  inner = scopes.within p.declarations

  met_at : (before : List Declaration) → Met (met p before) before
  met_at before = met_all d.nothing_passed [] before before refl met_none

  unknown_by : (c : Names) (l : Locals) (w : PlacedName) (x : Bool) → find w.text l ≡ None → c.shared w.text ≡ None
      → Is (use_by p c l w x) (UnknownName w.at)
  unknown_by c l w false a b = in_scalar_unknown w (find w.text l) (c.shared w.text) a b
  unknown_by c l w true a b = in_array_unknown w (find w.text l) (c.shared w.text) a b

  other_by : (c : Names) (l : Locals) (w : PlacedName) (x y : Bool)
      → array_named (find w.text l) (c.shared w.text) ≡ Some y → y ≢ x → Is (use_by p c l w x) (WrongType w.at)
  other_by c l w false y e n = in_scalar_other w (find w.text l) (c.shared w.text) y e n
  other_by c l w true y e n = in_array_other w (find w.text l) (c.shared w.text) y e n

  call_at : (i : Site) (form : StatementForm) (w : PlacedName) (args : Expressions) (o : Option Callee)
      → Stands p i form → call_of form ≡ Some (w, args) → i.names.procs w.text ≡ o
      → In (r.callee_use [] one app w (count args) o) (d.faults p)
  call_at i form w args o st co e f h =
      stands_in p i form st f (call_in i.names i.result i.locals (65 - i.before) st.at form (w, args) co f
      (in_left (r.callee_use [] one app w (count args) (i.names.procs w.text)) _ f
      (subst (λ y. Is (r.callee_use [] one app w (count args) y) f) (sym e) h)))

  no_merge : (w : PlacedName) (before : List Declaration)
      → ((e : Declaration) → Among before e → IsMergeOf w.text e → ⊥) → (x : Bool)
      → is_some (find w.text (met p before).merges) ≡ x → x ≡ false
  no_merge w before n true e = let g = (met_at before).merges_of w.text e in absurd (n g.0 g.1 g.2)
  no_merge w before n false e = refl

  -- a declaration of a shared variable
  shared_in : (x : SharedDeclaration) (m : Declares p (shared x))
      → In (d.broken_in_shared [] one app (met p (before_it p (shared x) m)) x) (d.faults p)
  shared_in x m f h = of_entry p (shared x) m f h

  funs_in : (before : List Declaration) (e : Declaration) → IsBehind before e p.declarations → IsFun e
      → funs before ≡ 256 → Is (d.faults p) (exceeded (word_of e).at limits.Funs)
  funs_in before (fun w ps x body) b is e =
      let g : TypeFault = exceeded w.at limits.Funs in
      at_declaration p before (fun w ps x body) b g
      (in_left _ _ g (in_right_side (d.new_name [] one app w (met p before).names) _ g
      (in_at (met p before).funs_left g (over_by (funs before) e (met p before).funs_left (met_at before).funs_left))))
  funs_in before (merge w m j x body) b is e =
      let g : TypeFault = exceeded w.at limits.Funs in
      at_declaration p before (merge w m j x body) b g
      (in_left _ _ g (in_right_side (d.new_name [] one app w (met p before).names) _ g
      (in_at (met p before).funs_left g (over_by (funs before) e (met p before).funs_left (met_at before).funs_left))))
  funs_in before (shared x) b is e = absurd is
  funs_in before (proc w ps x body) b is e = absurd is

  weight_in : (before : List Declaration) (w : PlacedName) (body : Expression)
      → most limits.Weight < expression_weight (weights_after [] before) body
      → Is (d.weight_of [] one app w (d.weight (met p before).weights body)) (exceeded w.at limits.Weight)
  weight_in before w body h =
      in_when (nat_lt (most limits.Weight) (d.weight (met p before).weights body)) (exceeded w.at limits.Weight)
      (heavy (expression_weight (weights_after [] before) body) (d.weight (met p before).weights body)
      (expression_caps (weights_after [] before) (met p before).weights (met_at before).weights body) h)

  heavy_in : (before : List Declaration) (e : Declaration) → IsBehind before e p.declarations
      → most limits.Weight < declaration_weight (weights_after [] before) e
      → Is (d.faults p) (exceeded (word_of e).at limits.Weight)
  heavy_in before (fun w ps x body) b h =
      let g : TypeFault = exceeded w.at limits.Weight in
      at_declaration p before (fun w ps x body) b g
      (in_right_side _ _ g (in_right_side _ _ g
      (in_right_side (d.fun_body [] one app inner (scopes.with_params [] ps) x body) _ g (weight_in before w body h))))
  heavy_in before (merge w m j x body) b h =
      let g : TypeFault = exceeded w.at limits.Weight in
      at_declaration p before (merge w m j x body) b g
      (in_right_side _ _ g (in_right_side _ _ g
      (in_right_side (r.part_by [] one app inner (scopes.merge_locals m j x) body k.Int) _ g
      (weight_in before w body h))))
  heavy_in before (shared x) b h = absurd (omega arith)
  heavy_in before (proc w ps x body) b h = absurd (omega arith)

  -- the parameters of a declaration
  fun_param_at : (w : PlacedName) (ps : List Parameter) (x : ValueKind) (body : Expression) (before : List Parameter)
      (q : Parameter)
      → Declares p (fun w ps x body) → IsBehind before q ps
      → In (d.fun_param [] one app (scopes.with_params [] before) (9 - length before) q) (d.faults p)
  fun_param_at w ps x body before q m b f h =
      of_entry p (fun w ps x body) m f
      (in_right_side _ _ f
      (in_left _ _ f (in_left (d.fun_params [] one app [] 9 [] ps) _ f (fun_at ps before q b f h))))

  proc_param_at : (w : PlacedName) (ps : List Parameter) (x : Option ValueKind) (body : Statements)
      (before : List Parameter) (q : Parameter)
      → Declares p (proc w ps x body) → IsBehind before q ps
      → In (d.proc_param [] one app outer (scopes.with_params [] before) (9 - length before) (65 - length before) q)
      (d.faults p)
  proc_param_at w ps x body before q m b f h =
      of_entry p (proc w ps x body) m f
      (in_right_side _ _ f
      (in_left _ _ f (in_left (d.proc_params [] one app outer [] 9 65 [] ps) _ f (proc_at outer ps before q b f h))))

  known_word : (ps before : List Parameter) (v w : PlacedName) (q : Parameter) → Among (map parameter_word before) v
      → v.text ≡ w.text → q.name ≡ w → is_some (find q.name.text (scopes.with_params [] before)) ≡ true
  known_word ps before v w q m is e =
      subst (λ n. is_some (find n (scopes.with_params [] before)) ≡ true) (is ∙ (λ i. (sym e i).text))
      ((scope_all [] [] before before refl scope_none).knows v m)

  merge_again_in : (n m j x : PlacedName) (body : Expression) (before : List PlacedName) (v w : PlacedName)
      (behind : List PlacedName)
      → Declares p (merge n m j x body) → m ∷ j ∷ x ∷ [] ≡ before ++ w ∷ behind
      → Among before v → v.text ≡ w.text → Is (d.merge_params [] one app m j x) (Redeclared w.at)
  merge_again_in n m j x body [] v w behind h e a is = absurd a
  merge_again_in n m j x body (y ∷ []) v w behind h e (inl a) is =
      let e1 : m ≡ y = cc in
      let e2 : j ≡ w = cc in
      let same : j.text ≡ m.text = (λ i. (e2 i).text) ∙ sym is ∙ (λ i. (sym a i).text) ∙ (λ i. (sym e1 i).text) in
      subst (λ z. Is (d.merge_params [] one app m j x) (Redeclared z.at)) e2
      (in_left _ (d.new_param [] one app x (added (added [] m.text (Some k.Int)) j.text (Some k.Int))) (Redeclared j.at)
      (in_when (is_some (find j.text (added [] m.text (Some k.Int)))) (Redeclared j.at)
      (known_more j.text m.text (Some k.Int) [] (inr same))))
  merge_again_in n m j x body (y ∷ []) v w behind h e (inr a) is = absurd a
  merge_again_in n m j x body (y ∷ z ∷ []) v w behind h e a is =
      let e1 : m ≡ y = cc in
      let e2 : j ≡ z = cc in
      let e3 : x ≡ w = cc in
      let known : is_some (find x.text (added (added [] m.text (Some k.Int)) j.text (Some k.Int))) ≡ true =
      third m j x y z v w e1 e2 e3 a is in
      subst (λ u. Is (d.merge_params [] one app m j x) (Redeclared u.at)) e3
      (in_right_side (d.new_param [] one app j (added [] m.text (Some k.Int))) _ (Redeclared x.at)
      (in_when (is_some (find x.text (added (added [] m.text (Some k.Int)) j.text (Some k.Int)))) (Redeclared x.at)
      known))
    where
      third : (m j x y z v w : PlacedName) → m ≡ y → j ≡ z → x ≡ w → Among (y ∷ z ∷ []) v → v.text ≡ w.text
          → is_some (find x.text (added (added [] m.text (Some k.Int)) j.text (Some k.Int))) ≡ true
      third m j x y z v w e1 e2 e3 (inl b) is =
          known_more x.text j.text (Some k.Int) (added [] m.text (Some k.Int))
          (inl (known_more x.text m.text (Some k.Int) []
          (inr ((λ i. (e3 i).text) ∙ sym is ∙ (λ i. (sym b i).text) ∙ (λ i. (sym e1 i).text)))))
      third m j x y z v w e1 e2 e3 (inr (inl b)) is =
          known_more x.text j.text (Some k.Int) (added [] m.text (Some k.Int))
          (inr ((λ i. (e3 i).text) ∙ sym is ∙ (λ i. (sym b i).text) ∙ (λ i. (sym e2 i).text)))
      third m j x y z v w e1 e2 e3 (inr (inr b)) is = absurd b
  merge_again_in n m j x body (y ∷ z ∷ u ∷ before) v w behind h e a is =
      absurd (no_behind before w (record { rest = behind; parts = cc }))

  again_in : (e : Declaration) (before : List PlacedName) (v w : PlacedName) → Declares p e
      → IsBehind before w (param_words e) → Among before v → v.text ≡ w.text → Is (d.faults p) (Redeclared w.at)
  again_in (fun n ps x body) before v w m b a is =
      let g = split_at ps before w b.rest b.parts in
      let known : is_some (find g.1.name.text (scopes.with_params [] g.0)) ≡ true =
      known_word ps g.0 v w g.1 (subst (λ ws. Among ws v) (sym g.3) a) is g.4 in
      subst (λ z. Is (d.faults p) (Redeclared z.at)) g.4
      (fun_param_at n ps x body g.0 g.1 m g.2 (Redeclared g.1.name.at)
      (in_left (d.new_param [] one app g.1.name (scopes.with_params [] g.0)) _ (Redeclared g.1.name.at)
      (in_when (is_some (find g.1.name.text (scopes.with_params [] g.0))) (Redeclared g.1.name.at) known)))
  again_in (proc n ps x body) before v w m b a is =
      let g = split_at ps before w b.rest b.parts in
      let known : is_some (find g.1.name.text (scopes.with_params [] g.0)) ≡ true =
      known_word ps g.0 v w g.1 (subst (λ ws. Among ws v) (sym g.3) a) is g.4 in
      subst (λ z. Is (d.faults p) (Redeclared z.at)) g.4
      (proc_param_at n ps x body g.0 g.1 m g.2 (Redeclared g.1.name.at)
      (in_left
      (s.new_local [] one app g.1.name (find g.1.name.text (scopes.with_params [] g.0)) (outer.shared g.1.name.text)) _
      (Redeclared g.1.name.at)
      (in_known g.1.name (find g.1.name.text (scopes.with_params [] g.0)) (outer.shared g.1.name.text) known)))
  again_in (shared x) before v w m b a is = absurd (no_behind before w b)
  again_in (merge n i j x body) before v w m b a is =
      of_entry p (merge n i j x body) m (Redeclared w.at)
      (in_right_side _ _ (Redeclared w.at)
      (in_left (d.merge_params [] one app i j x) _ (Redeclared w.at)
      (merge_again_in n i j x body before v w b.rest m b.parts a is)))

  params_in : (e : Declaration) (before : List Parameter) (q : Parameter) → Declares p e
      → IsBehind before q (parameters_of e) → length before ≡ 8 → Is (d.faults p) (exceeded q.name.at limits.Parameters)
  params_in (fun w ps x body) before q m b e =
      let g : TypeFault = exceeded q.name.at limits.Parameters in
      fun_param_at w ps x body before q m b g
      (in_right_side _ _ g
      (in_right_side (d.no_rev_param [] one app q) _ g (in_at (9 - length before) g (omega arith))))
  params_in (proc w ps x body) before q m b e =
      let g : TypeFault = exceeded q.name.at limits.Parameters in
      proc_param_at w ps x body before q m b g
      (in_right_side _ _ g (in_left (d.limit_at [] one app q.name.at limits.Parameters (9 - length before)) _ g
      (in_at (9 - length before) g (omega arith))))
  params_in (merge w m' j x body) before q m b e = absurd (no_behind before q b)
  params_in (shared x) before q m b e = absurd (no_behind before q b)

  pub breaks_in : (f : TypeFault) → Breaks p f → Is (d.faults p) f
  breaks_in f (unknown_variable {c = c} {l = l} {w = w} {indexed = x} u n) = use_in p u _ (unknown_by c l w x n.0 n.1)
  breaks_in f (unknown_procedure {i = i} {form = form} {w = w} {args = args} st co e) =
      call_at i form w args None st co e _ (here (UnknownName w.at))
  breaks_in f (unknown_merge {before = before} {x = x} {w = w} b e n) =
      let g : TypeFault = UnknownName w.at in
      at_declaration p before (shared x) b g
      (in_right_side _ _ g (in_left _ _ g (in_left (d.by_use [] one app (met p before).merges x.by) _ g
      (subst (λ o. Is (d.by_use [] one app (met p before).merges o) g) (sym e)
      (in_unless (is_some (find w.text (met p before).merges)) g (no_merge w before n _ refl))))))
  breaks_in f (declared_again {before = before} y {e = e} b m is) =
      let g : TypeFault = Redeclared (word_of e).at in
      at_declaration p before e b g
      (name_in outer inner (met p before) e g (in_when (is_some (find (word_of e).text (met p before).names)) g
      (subst (λ n. is_some (find n (met p before).names) ≡ true) (is ∙ name_word e) ((met_at before).of_names y m))))
  breaks_in f (parameter_again {e = e} {before = before} v {w = w} m b a is) = again_in e before v w m b a is
  breaks_in f (parameter_of_shared {w = w} {ps = ps} {r = x} {body = body} q m a n) =
      let g : TypeFault = Redeclared q.name.at in
      let b = behind_of ps q a in
      proc_param_at w ps x body b.0 q m b.1 g
      (in_left (s.new_local [] one app q.name (find q.name.text (scopes.with_params [] b.0)) (outer.shared q.name.text))
      _ g (in_new q.name (find q.name.text (scopes.with_params [] b.0)) (outer.shared q.name.text) (λ h. n h.1)))
  breaks_in f (let_again {i = i} {w = w} {x = x} st g) =
      stands_in p i (bind w x) st _
      (in_right_side _ _ _ (in_left (s.new_local [] one app w (find w.text i.locals) (i.names.shared w.text)) _ _
      (in_new w (find w.text i.locals) (i.names.shared w.text) g)))
  breaks_in f (other_kind {c = c} {l = l} {e = e} {t = t} {found = u} w q n) =
      wanted_in p w _ (in_wants (expression_place e) (kind_in c l e) t u q n)
  breaks_in f (is_handle {c = c} {l = l} {e = e} h q) =
      handle_in p h _ (in_not_rev (expression_place e) (kind_in c l e) q)
  breaks_in f (other_right_side {i = i} {w = w} {x = x} {t = t} {found = u} st a b q) =
      stands_in p i (assign w x) st _
      (in_right_side _ _ _ (in_right_side (r.broken_in_right_side [] one app i.names i.locals x) _ _
      (in_alike (right_side_place x) (name_kind (find w.text i.locals) (i.names.shared w.text))
      (right_side_kind i.names i.locals x) t u a b q)))
  breaks_in f (other_constant {x = x} {first = y} m e n) =
      shared_in x m _ (in_right_side _ _ _ (in_right_side _ _ _ (in_right_side (d.size_use [] one app x.size) _ _
      (subst (λ o. Is (d.first_value [] one app o x.holds) (WrongType y.at)) (sym e)
      (in_wants y.at (Some (kind_of y.value)) x.holds (kind_of y.value) refl n)))))
  breaks_in f (other_use {c = c} {l = l} {w = w} {indexed = x} {array = y} u e n) =
      use_in p u _ (other_by c l w x y e n)
  breaks_in f (no_result {i = i} {at = at} {form = form} {w = w} {args = args} {f = g} st ro e h) =
      stands_in p i form st _ (right_side_in i.names i.result i.locals (65 - i.before) st.at form (called at w args) ro
      _ (in_left (r.result_use [] one app w.at (i.names.procs w.text)) _ _
      (subst (λ o. Is (r.result_use [] one app w.at o) (WrongType w.at)) (sym e)
      (subst (λ o. Is (r.has_result [] one app w.at o) (WrongType w.at)) (sym h) (here (WrongType w.at))))))
  breaks_in f (cumulative_kind {x = x} {w = w} m e n) =
      shared_in x m _ (in_right_side _ _ _
      (in_left _ _ _ (in_right_side (d.by_use [] one app (met p (before_it p (shared x) m)).merges x.by) _ _
      (subst (λ o. Is (d.cumulative_kind [] one app o x.kind_at x.holds) (WrongType x.kind_at)) (sym e)
      (in_unless (same_kind x.holds k.Int) (WrongType x.kind_at) (not_alike x.holds k.Int n))))))
  breaks_in f (fun_parameter {w = w} {ps = ps} {r = x} {body = body} q m a e) =
      let b = behind_of ps q a in
      fun_param_at w ps x body b.0 q m b.1 _
      (in_right_side _ _ _ (in_left (d.no_rev_param [] one app q) _ _
      (in_when (same_kind q.kind k.Rev) (WrongType q.kind_at) (alike_kinds q.kind k.Rev e))))
  breaks_in f (fun_result {w = w} {ps = ps} {r = x} {body = body} m e) =
      of_entry p (fun w ps x body) m _
      (in_right_side _ _ _ (in_left _ _ _
      (in_right_side (d.fun_params [] one app [] 9 [] ps) _ _
      (in_when (same_kind x k.Rev) (WrongType w.at) (alike_kinds x k.Rev e)))))
  breaks_in f (input_inside {c = c} {at' = at'} o h) =
      occurs_in p o _ (in_left _ _ _ (in_when c.inside (WrongType at') h))
  breaks_in f (inputs_inside {c = c} {at' = at'} o h) = occurs_in p o _ (in_when c.inside (WrongType at') h)
  breaks_in f (return_without {i = i} {t = t} st h) =
      stands_in p i (return None) st _
      (subst (λ o. Is (s.return_by [] one app i.names i.locals o st.at None) (WrongType st.at)) (sym h)
      (here (WrongType st.at)))
  breaks_in f (return_with {i = i} {e = e} st h) =
      stands_in p i (return (Some e)) st _
      (subst (λ o. Is (s.return_by [] one app i.names i.locals o st.at (Some e)) (WrongType (expression_place e)))
      (sym h)
      (in_right_side (r.broken_in_expression [] one app i.names i.locals e) _ _
      (here (WrongType (expression_place e)))))
  breaks_in f (other_count {i = i} {form = form} {w = w} {args = args} {f = g} st co e h) =
      call_at i form w args (Some g) st co e _
      (in_unless (nat_eq (count args) (length g.params)) (WrongCount w.at)
      (is_unequal (count args) (length g.params) (λ q. h (counts args ∙ q))))
  breaks_in f (no_cells {x = x} {size = y} m e h) =
      shared_in x m _ (in_right_side _ _ _ (in_right_side _ _ _ (in_left (d.size_use [] one app x.size) _ _
      (subst (λ o. Is (d.size_use [] one app o) (WrongCount y.at)) (sym e)
      (in_when (nat_eq (scopes.size_cells y.cells) 0) (WrongCount y.at) (is_equal (scopes.size_cells y.cells) 0 h))))))
  breaks_in f (no_return {w = w} {ps = ps} {t = t} {body = body} m h) =
      of_entry p (proc w ps (Some t) body) m _
      (in_right_side _ _ _ (in_left _ _ _
      (in_right_side (d.proc_params [] one app outer [] 9 65 [] ps) _ _
      (in_unless (s.returns body) (NoReturn w.at) (not_ending body h)))))
  breaks_in f (locations {before = before} {x = x} b h g) =
      let both = over (met p before).located (cells before) (scopes.cells_of x.size) (met_at before).located h g in
      at_declaration p before (shared x) b _
      (in_left _ _ _ (in_right_side (d.new_name [] one app x.name (met p before).names) _ _
      (in_tests (nat_le (met p before).located 4096)
      (nat_lt 4096 (d.located_after (met p before).located (d.cells_in x.size))) (exceeded x.name.at limits.Locations)
      both.0 both.1)))
  breaks_in f (procedures {before = before} {w = w} {ps = ps} {r = x} {body = body} b e) =
      at_declaration p before (proc w ps x body) b _
      (in_left _ _ _ (in_right_side (d.new_name [] one app w (met p before).names) _ _
      (in_at (met p before).procs_left (exceeded w.at limits.Procedures)
      (over_by (procs before) e (met p before).procs_left (met_at before).procs_left))))
  breaks_in f (declared_funs {before = before} {e = e} b is h) = funs_in before e b is h
  breaks_in f (parameters {e = e} {before = before} {q = q} m b h) = params_in e before q m b h
  breaks_in f (local_parameter {w = w} {ps = ps} {r = x} {body = body} {before = before} {q = q} m b e) =
      proc_param_at w ps x body before q m b _
      (in_right_side _ _ _ (in_right_side (d.limit_at [] one app q.name.at limits.Parameters (9 - length before)) _ _
      (in_at (65 - length before) (exceeded q.name.at limits.Locals) (omega arith))))
  breaks_in f (local_let {i = i} {w = w} {x = x} st e) =
      stands_in p i (bind w x) st _
      (in_right_side _ _ _ (in_right_side (s.new_local [] one app w (find w.text i.locals) (i.names.shared w.text)) _ _
      (in_at (65 - i.before) (exceeded w.at limits.Locals) (omega arith))))
  breaks_in f (too_many_items {i = i} {all = all} {before = before} {x = x} st b e) =
      let g : TypeFault = exceeded (item_place x) limits.Items in
      stands_in p i (print all) st g (subst (λ xs. Is (s.items_by [] one app i.names i.locals 65 [] xs) g) (sym b.parts)
      (item_at i.names i.locals 65 [] before x b.rest g
      (item_limit i.names i.locals (65 - length before) x (omega arith))))
  breaks_in f (too_heavy {before = before} {e = e} b h) = heavy_in before e b h

pub same : Same
same p f = (λ m. program_all p f m, λ b. (breaks_in p f b).it)

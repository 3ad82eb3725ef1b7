-- All that declarations break is broken by the rules.
--
-- Each fault that the checker lists of a declaration is one that the rules give there. What it keeps of the
-- declarations before it stands in Decls.
use Rattle.std.proofs.Common.{◌≡◌, ◌∙◌, ◌≢◌, inl, inr, ℕ, ◌+◌, ◌-◌, ◌≤◌, ◌<◌, min, Bool, true, false, cond, nat_eq, nat_le, nat_lt, Option, Some, None, is_some, List, [], ◌∷◌, ◌++◌, map, length, refl, sym, ap, subst, arith, true≢false}
use Rattle.std.proofs.lemmas.Bool.Decides.{nat_tests}
use Rattle.std.proofs.lemmas.List.{map-append}
use Rattle.rev_num.specs.declared.value.ValueKind.{ValueKind}
use Rattle.rev_num.specs.declared.value.ValueKind.TheVariants as k
use Rattle.rev_num.specs.Value.{kind_of, same_kind}
use Rattle.rev_num.proofs.SameKinds.{same_kind_is}
use Rattle.rev_syntax.specs.Trees.{PlacedName, Parameter, ArraySize, Constant, SharedDeclaration, Expression, Statements, Declaration, fun, merge, shared, proc, ProgramTree}
use Rattle.typed_programs.specs.Least.{Among}
use Rattle.name_tables.specs.Names.{Name}
use Rattle.name_tables.specs.Table.{find, added}
use Rattle.typed_programs.specs.Weights.{expression_weight, weights_after}
use Rattle.typed_programs.proofs.Firsts.{last_among}
use Rattle.rev_report.specs.declared.limit.Limit.TheVariants as limits
use Rattle.rev_report.specs.Limits.{first_past, most}
use Rattle.typed_programs.specs.declared.fault.TypeFault.{TypeFault}
use Rattle.typed_programs.specs.declared.fault.TypeFault.TheVariants.{Redeclared}
use Rattle.typed_programs.specs.declared.names.Holder.{Holder}
use Rattle.typed_programs.specs.Faults.{exceeded}
use Rattle.typed_programs.specs.Kinds.{Names, Locals}
use Rattle.typed_programs.proofs.Lists.{equal, known_added, known_more}
use Rattle.typed_programs.proofs.Typings.{All, one, app}
use Rattle.typed_programs.specs.Statements as s
use Rattle.typed_programs.specs.Scopes as scopes
use Rattle.typed_programs.specs.Program as d
use Rattle.typed_programs.specs.Judgement.{name_of, word_of}
use Rattle.typed_programs.specs.Limits.{cells, procs, funs}
use Rattle.typed_programs.proofs.StatementsFaults.{AllAre, all_none, all_both, all_when, all_at}
use Rattle.typed_programs.proofs.Weights.{expression_caps}
use Rattle.static_rules.specs.Places.{IsBehind, Declares, in_fun, in_merge, fun_body, merge_body, fun_value, in_proc, in_main, parameter_word}
use Rattle.static_rules.specs.Breaks.{Breaks, IsFun, unknown_merge, declared_again, parameter_again, parameter_of_shared, other_constant, cumulative_kind, fun_parameter, fun_result, no_cells, no_return, locations, procedures, declared_funs, parameters, local_parameter, too_heavy}
use Rattle.typed_programs.proofs.Returning.{ends_return}
use Rattle.typed_programs.proofs.DeclsWithin.{params_left as left_params}
use Rattle.static_rules.proofs.Gathers.{all_one, all_unless, not_none, differ}
use Rattle.static_rules.proofs.Expressions.{wanted_all, handle_all, expression_all}
use Rattle.static_rules.proofs.Blocks.{among_behind, among_at, behind_by, further, last_left, longer, statements_all}
use Rattle.static_rules.proofs.Decls.{in_front, Met, met_none, met_next, none_there}

-- ---- parameters

-- a scope is that of these parameters
pub record Scope (l : Locals) (before : List Parameter) : Type 0 where
  pub known : (name : Name) → is_some (find name l) ≡ true
      → (v : PlacedName) × Among (map parameter_word before) v × (v.text ≡ name)
  pub knows : (v : PlacedName) → Among (map parameter_word before) v → is_some (find v.text l) ≡ true

pub scope_none : Scope [] []
scope_none = record { known = λ name h. none_there h; knows = λ v m. absurd m }

words_end : (before : List Parameter) (q : Parameter)
    → map parameter_word (before ++ q ∷ []) ≡ map parameter_word before ++ q.name ∷ []
words_end before q = map-append parameter_word before (q ∷ [])

-- a name that is known with one parameter more is that of this one or of one before
known_next : (l : Locals) (before : List Parameter) (q : Parameter) → Scope l before → (name : Name)
    → is_some (find name (added l q.name.text (Some q.kind))) ≡ true
    → (v : PlacedName) × Among (map parameter_word before ++ q.name ∷ []) v × (v.text ≡ name)
known_next l before q f name h = elim (known_added name q.name.text (Some q.kind) l h) [
  | inl a ↦ let g = f.known name a in (g.0, in_front (map parameter_word before) (q.name ∷ []) g.0 g.1, g.2)
  | inr b ↦ (q.name, among_behind (map parameter_word before) q.name [], sym b)
]

-- and each of these names is known then
knows_next : (l : Locals) (before : List Parameter) (q : Parameter) → Scope l before → (v : PlacedName)
    → Among (map parameter_word before ++ q.name ∷ []) v
    → is_some (find v.text (added l q.name.text (Some q.kind))) ≡ true
knows_next l before q f v m = elim (last_among (map parameter_word before) q.name v m) [
  | inl a ↦ known_more v.text q.name.text (Some q.kind) l (inl (f.knows v a))
  | inr b ↦ known_more v.text q.name.text (Some q.kind) l (inr (λ i. (sym b i).text))
]

pub scope_next : (l : Locals) (before : List Parameter) (q : Parameter) → Scope l before
    → Scope (added l q.name.text (Some q.kind)) (before ++ q ∷ [])
scope_next l before q f = record {
  known = λ name h.
      subst (λ ws. (v : PlacedName) × Among ws v × (v.text ≡ name)) (sym (words_end before q))
      (known_next l before q f name h);
  knows = λ v m. knows_next l before q f v (subst (λ ws. Among ws v) (words_end before q) m);
}

words_behind : (all before : List Parameter) (q : Parameter) (qs : List Parameter) → all ≡ before ++ q ∷ qs
    → map parameter_word all ≡ map parameter_word before ++ q.name ∷ map parameter_word qs
words_behind all before q qs e = ap (λ l. map parameter_word l) e ∙ map-append parameter_word before (q ∷ qs)

last_param : (n left : ℕ) → left ≡ 9 - n → left ≡ 1 → n ≡ 8
last_param n left e h = omega arith

next_param : (m n left : ℕ) → m ≡ n + 1 → left ≡ 9 - n → left - 1 ≡ 9 - m
next_param m n left e h = omega arith

next_local : (m n left : ℕ) → m ≡ n + 1 → left ≡ 65 - n → left - 1 ≡ 65 - m
next_local m n left e h = omega arith

-- a local or a shared variable of this name
new_all : (P : TypeFault → Type 0) (w : PlacedName) (o : Option (Option ValueKind)) (h : Option Holder)
    → (is_some o ≡ true → P (Redeclared w.at)) → (h ≢ None → P (Redeclared w.at))
    → AllAre P (s.new_local [] one app w o h)
new_all P w (Some x) h a b = all_one P _ (a refl)
new_all P w None (Some h) a b = all_one P _ (b (λ e. not_none h e))
new_all P w None None a b = all_none P

some_of : {A : Type 0} (o : Option A) → is_some o ≡ true → (x : A) × (o ≡ Some x)
some_of None h = none_there h
some_of (Some x) h = (x, refl)

module _ (p : ProgramTree) where
  abbrev outer : Names
  outer = scopes.outside p.declarations

  abbrev inner : Names
  inner = scopes.within p.declarations

  fun_params_all : (w : PlacedName) (all : List Parameter) (x : ValueKind) (body : Expression)
      (m : Declares p (fun w all x body)) (before qs : List Parameter) (l : Locals) (left : ℕ) (found : All)
      → all ≡ before ++ qs → Scope l before → left ≡ 9 - length before → AllAre (Breaks p) found
      → AllAre (Breaks p) (d.fun_params [] one app l left found qs)
  fun_params_all w all x body m before [] l left found e f h a = a
  fun_params_all w all x body m before (q ∷ qs) l left found e f h a =
      fun_params_all w all x body m (before ++ q ∷ []) qs (added l q.name.text (Some q.kind)) (left - 1) _
      (further all before q qs e) (scope_next l before q f)
      (next_param (length (before ++ q ∷ [])) (length before) left (longer before q) h)
      (all_both (Breaks p) _ _ a
      (all_both (Breaks p) _ _
      (all_when (Breaks p) (is_some (find q.name.text l)) _
      (λ t.
      let g = f.known q.name.text t in
      parameter_again {e = fun w all x body} {before = map parameter_word before} g.0 m
      (behind_by (map parameter_word before) q.name (map parameter_word qs) (map parameter_word all)
      (words_behind all before q qs e))
      g.1 g.2))
      (all_both (Breaks p) _ _ (all_when (Breaks p) (same_kind q.kind k.Rev) _
      (λ t. fun_parameter q m (among_at before q all (behind_by before q qs all e)) (same_kind_is q.kind k.Rev t)))
      (all_at (Breaks p) left (exceeded q.name.at limits.Parameters)
      (λ t. parameters {e = fun w all x body} {before = before} m (behind_by before q qs all e)
      (last_param (length before) left h t))))))

  proc_params_all : (w : PlacedName) (all : List Parameter) (x : Option ValueKind) (body : Statements)
      (m : Declares p (proc w all x body)) (before qs : List Parameter) (l : Locals) (left locals : ℕ) (found : All)
      → all ≡ before ++ qs → Scope l before → left ≡ 9 - length before → locals ≡ 65 - length before
      → AllAre (Breaks p) found
      → AllAre (Breaks p) (d.proc_params [] one app outer l left locals found qs)
  proc_params_all w all x body m before [] l left locals found e f h g a = a
  proc_params_all w all x body m before (q ∷ qs) l left locals found e f h g a =
      proc_params_all w all x body m (before ++ q ∷ []) qs (added l q.name.text (Some q.kind)) (left - 1) (locals - 1) _
      (further all before q qs e) (scope_next l before q f)
      (next_param (length (before ++ q ∷ [])) (length before) left (longer before q) h)
      (next_local (length (before ++ q ∷ [])) (length before) locals (longer before q) g)
      (all_both (Breaks p) _ _ a
      (all_both (Breaks p) _ _
      (new_all (Breaks p) q.name (find q.name.text l) (outer.shared q.name.text)
      (λ t.
      let v = f.known q.name.text t in
      parameter_again {e = proc w all x body} {before = map parameter_word before} v.0 m
      (behind_by (map parameter_word before) q.name (map parameter_word qs) (map parameter_word all)
      (words_behind all before q qs e))
      v.1 v.2)
      (λ t. parameter_of_shared q m (among_at before q all (behind_by before q qs all e)) t))
      (all_both (Breaks p) _ _ (all_at (Breaks p) left (exceeded q.name.at limits.Parameters)
      (λ t. parameters {e = proc w all x body} {before = before} m (behind_by before q qs all e)
      (last_param (length before) left h t)))
      (all_at (Breaks p) locals (exceeded q.name.at limits.Locals)
      (λ t. local_parameter {before = before} m (behind_by before q qs all e)
      (last_left (length before) locals g t))))))

  merge_params_all : (w m j x : PlacedName) (body : Expression) → Declares p (merge w m j x body)
      → AllAre (Breaks p) (d.merge_params [] one app m j x)
  merge_params_all w m j x body h =
      let one_of = known_added j.text m.text (Some k.Int) [] in
      let two_of = known_added x.text j.text (Some k.Int) (added [] m.text (Some k.Int)) in
      let first_of = known_added x.text m.text (Some k.Int) [] in
      all_both (Breaks p) _ _
      (all_when (Breaks p) (is_some (find j.text (added [] m.text (Some k.Int)))) _ (λ t. elim (one_of t) [
        | inl a ↦ none_there a
        | inr b ↦ parameter_again {e = merge w m j x body} {before = m ∷ []} m h
            (behind_by (m ∷ []) j (x ∷ []) (m ∷ j ∷ x ∷ []) refl) (inl refl) (sym b)
      ]))
      (all_when (Breaks p) (is_some (find x.text (added (added [] m.text (Some k.Int)) j.text (Some k.Int)))) _
      (λ t. elim (two_of t) [
        | inl a ↦ elim (first_of a) [
          | inl c ↦ none_there c
          | inr c ↦ parameter_again {e = merge w m j x body} {before = m ∷ j ∷ []} m h
              (behind_by (m ∷ j ∷ []) x [] (m ∷ j ∷ x ∷ []) refl) (inl refl) (sym c)
        ]
        | inr b ↦ parameter_again {e = merge w m j x body} {before = m ∷ j ∷ []} j h
            (behind_by (m ∷ j ∷ []) x [] (m ∷ j ∷ x ∷ []) refl) (inr (inl refl)) (sym b)
      ]))

  -- ---- one declaration, behind these

  module _ (q : d.Passed) (before : List Declaration) (f : Met q before) where
    name_all : (e : Declaration) → IsBehind before e p.declarations
        → AllAre (Breaks p) (d.new_name [] one app (word_of e) q.names)
    name_all e b =
        all_when (Breaks p) (is_some (find (word_of e).text q.names)) _
        (λ t. let g = f.names_of (word_of e).text t in again e b g.0 g.1 g.2)
      where
        again : (e : Declaration) → IsBehind before e p.declarations → (y : Declaration) → Among before y
            → name_of y ≡ (word_of e).text → Breaks p (Redeclared (word_of e).at)
        again (fun w ps x body) b y m is = declared_again y {e = fun w ps x body} b m is
        again (merge w m' j x body) b y m is = declared_again y {e = merge w m' j x body} b m is
        again (shared x) b y m is = declared_again y {e = shared x} b m is
        again (proc w ps x body) b y m is = declared_again y {e = proc w ps x body} b m is

    last_of : (n left : ℕ) → left ≡ 257 - n → left ≡ 1 → n ≡ 256
    last_of n left e h = omega arith

    funs_all : (e : Declaration) → IsBehind before e p.declarations → IsFun e
        → AllAre (Breaks p) (d.limit_at [] one app (word_of e).at limits.Funs q.funs_left)
    funs_all e b is =
        all_at (Breaks p) q.funs_left (exceeded (word_of e).at limits.Funs)
        (λ t. declared_funs {before = before} {e = e} b is (last_of (funs before) q.funs_left f.funs_left t))

    heavy : (n m : ℕ) → m ≡ min n (first_past limits.Weight) → nat_lt (most limits.Weight) m ≡ true
        → most limits.Weight < n
    heavy n m e h = let g : most limits.Weight < m = grind (arith, nat_tests) in omega arith

    over : (n c : ℕ) → q.located ≡ min n 4097 → nat_le q.located 4096 ≡ true
        → nat_lt 4096 (d.located_after q.located (min c 4097)) ≡ true → (n ≤ 4096) × (4096 < n + c)
    over n c e h g =
        let a : q.located ≤ 4096 = grind (arith, nat_tests) in
        let b : 4096 < d.located_after q.located (min c 4097) = grind (arith, nat_tests) in
        (omega arith, omega arith)

    located_all : (x : SharedDeclaration) → IsBehind before (shared x) p.declarations
        → AllAre (Breaks p)
        (d.location_limit [] one app x.name q.located (d.located_after q.located (d.cells_in x.size)))
    located_all x b = by (nat_le q.located 4096) refl
      where
        by : (y : Bool) → nat_le q.located 4096 ≡ y
            → AllAre (Breaks p) (cond y
            (cond (nat_lt 4096 (d.located_after q.located (d.cells_in x.size)))
            (one (exceeded x.name.at limits.Locations)) [])
            [])
        by true h = all_when (Breaks p) (nat_lt 4096 (d.located_after q.located (d.cells_in x.size))) _
            (λ t.
            let g = over (cells before) (scopes.cells_of x.size) f.located h t in locations {before = before} b g.0 g.1)
        by false h = all_none (Breaks p)

    by_all : (x : SharedDeclaration) (o : Option PlacedName) → IsBehind before (shared x) p.declarations → x.by ≡ o
        → AllAre (Breaks p) (d.by_use [] one app q.merges o)
    by_all x None b e = all_none (Breaks p)
    by_all x (Some w) b e =
        all_unless (Breaks p) (is_some (find w.text q.merges)) _
        (λ t. unknown_merge {before = before} b e (λ y m is. true≢false (sym (f.of_merges w.text y m is) ∙ t)))

    cumulative_all : (x : SharedDeclaration) (o : Option PlacedName) → Declares p (shared x) → x.by ≡ o
        → AllAre (Breaks p) (d.cumulative_kind [] one app o x.kind_at x.holds)
    cumulative_all x None m e = all_none (Breaks p)
    cumulative_all x (Some w) m e =
        all_unless (Breaks p) (same_kind x.holds k.Int) _ (λ t. cumulative_kind m e (differ x.holds k.Int t))

    size_all : (x : SharedDeclaration) (o : Option ArraySize) → Declares p (shared x) → x.size ≡ o
        → AllAre (Breaks p) (d.size_use [] one app o)
    size_all x None m e = all_none (Breaks p)
    size_all x (Some y) m e =
        all_when (Breaks p) (nat_eq (scopes.size_cells y.cells) 0) _
        (λ t. no_cells m e (equal (scopes.size_cells y.cells) 0 t))

    value_all : (x : SharedDeclaration) (o : Option Constant) → Declares p (shared x) → x.first ≡ o
        → AllAre (Breaks p) (d.first_value [] one app o x.holds)
    value_all x None m e = all_none (Breaks p)
    value_all x (Some y) m e =
        all_unless (Breaks p) (same_kind (kind_of y.value) x.holds) _
        (λ t. other_constant m e (differ (kind_of y.value) x.holds t))

    return_all : (w : PlacedName) (ps : List Parameter) (x : Option ValueKind) (body : Statements)
        → Declares p (proc w ps x body) → AllAre (Breaks p) (d.return_use [] one app w x (s.returns body))
    return_all w ps None body m = all_none (Breaks p)
    return_all w ps (Some t) body m =
        all_unless (Breaks p) (s.returns body) _ (λ h. no_return m (λ e. true≢false (sym (ends_return body e) ∙ h)))

    weight_all : (w : PlacedName) (body : Expression)
        → (most limits.Weight < expression_weight (weights_after [] before) body
        → Breaks p (exceeded w.at limits.Weight))
        → AllAre (Breaks p) (d.weight_of [] one app w (d.weight q.weights body))
    weight_all w body h =
        all_when (Breaks p) (nat_lt (most limits.Weight) (d.weight q.weights body)) _
        (λ t. h (heavy (expression_weight (weights_after [] before) body) (d.weight q.weights body)
        (expression_caps (weights_after [] before) q.weights f.weights body) t))

    pub declaration_all : (e : Declaration) → IsBehind before e p.declarations
        → AllAre (Breaks p) (d.broken_in_declaration [] one app outer inner q e)
    declaration_all (fun w ps x body) b =
        let m : Declares p (fun w ps x body) = record { among = among_at before (fun w ps x body) p.declarations b } in
        all_both (Breaks p) _ _
        (all_both (Breaks p) _ _ (name_all (fun w ps x body) b) (funs_all (fun w ps x body) b tt))
        (all_both (Breaks p) _ _
        (all_both (Breaks p) _ _ (fun_params_all w ps x body m [] ps [] 9 [] refl scope_none refl (all_none (Breaks p)))
        (all_when (Breaks p) (same_kind x k.Rev) _ (λ t. fun_result m (same_kind_is x k.Rev t))))
        (all_both (Breaks p) _ _
        (all_both (Breaks p) _ _ (all_both (Breaks p) _ _
        (expression_all p inner (scopes.with_params [] ps) body (in_fun m))
        (wanted_all p inner (scopes.with_params [] ps) body x (fun_body m)))
        (handle_all p inner (scopes.with_params [] ps) body (fun_value m)))
        (weight_all w body (λ h. too_heavy {before = before} {e = fun w ps x body} b h))))
    declaration_all (merge w i j x body) b =
        let m : Declares p (merge w i j x body) =
        record { among = among_at before (merge w i j x body) p.declarations b } in
        all_both (Breaks p) _ _
        (all_both (Breaks p) _ _ (name_all (merge w i j x body) b) (funs_all (merge w i j x body) b tt))
        (all_both (Breaks p) _ _ (merge_params_all w i j x body m)
        (all_both (Breaks p) _ _
        (all_both (Breaks p) _ _ (expression_all p inner (scopes.merge_locals i j x) body (in_merge m))
        (wanted_all p inner (scopes.merge_locals i j x) body k.Int (merge_body m)))
        (weight_all w body (λ h. too_heavy {before = before} {e = merge w i j x body} b h))))
    declaration_all (shared x) b =
        let m : Declares p (shared x) = record { among = among_at before (shared x) p.declarations b } in
        all_both (Breaks p) _ _ (all_both (Breaks p) _ _ (name_all (shared x) b) (located_all x b))
        (all_both (Breaks p) _ _ (all_both (Breaks p) _ _ (by_all x x.by b refl) (cumulative_all x x.by m refl))
        (all_both (Breaks p) _ _ (size_all x x.size m refl) (value_all x x.first m refl)))
    declaration_all (proc w ps x body) b =
        let m : Declares p (proc w ps x body) =
        record { among = among_at before (proc w ps x body) p.declarations b } in
        all_both (Breaks p) _ _
        (all_both (Breaks p) _ _ (name_all (proc w ps x body) b)
        (all_at (Breaks p) q.procs_left (exceeded w.at limits.Procedures)
        (λ t. procedures {before = before} b (last_of (procs before) q.procs_left f.procs_left t))))
        (all_both (Breaks p) _ _
        (all_both (Breaks p) _ _
        (proc_params_all w ps x body m [] ps [] 9 65 [] refl scope_none refl refl (all_none (Breaks p)))
        (return_all w ps x body m))
        (statements_all p (record { names = outer; locals = scopes.with_params [] ps; result = x; before = length ps })
        (d.left_params 65 ps) [] body (left_params 65 ps) (in_proc m) (all_none (Breaks p))))

  declarations_all : (q : d.Passed) (before es : List Declaration) (found : All) → Met q before
      → p.declarations ≡ before ++ es → AllAre (Breaks p) found
      → AllAre (Breaks p) (d.broken_in_declarations [] one app outer inner q found es)
  declarations_all q before [] found f e a = a
  declarations_all q before (x ∷ es) found f e a =
      declarations_all (d.passed_with q x) (before ++ x ∷ []) es _ (met_next q before x f)
      (further p.declarations before x es e)
      (all_both (Breaks p) _ _ a (declaration_all q before f x (behind_by before x es p.declarations e)))

  -- each fault of the checker's list is one that the rules give
  pub program_all : AllAre (Breaks p) (d.faults p)
  program_all =
      all_both (Breaks p) _ _
      (declarations_all d.nothing_passed [] p.declarations [] met_none refl (all_none (Breaks p)))
      (statements_all p (record { names = outer; locals = []; result = None; before = 0 }) 65 [] p.main refl in_main
      (all_none (Breaks p)))

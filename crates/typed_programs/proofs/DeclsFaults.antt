-- What holds of the limits that a typed declaration breaks holds of all that it breaks, and so it does of
-- a typed program.
use Rattle.std.proofs.Common.{◌≡◌, ◌∙◌, ◌≢◌, inl, inr, ℕ, ◌-◌, Bool, true, false, cond, nat_eq, nat_le, nat_lt, Option, Some, None, is_some, List, [], ◌∷◌, refl, sym, ap, subst}
use Rattle.rev_num.specs.declared.value.ValueKind.{ValueKind}
use Rattle.rev_num.specs.declared.value.ValueKind.TheVariants as k
use Rattle.rev_num.specs.Value.{kind_of, same_kind}
use Rattle.rev_syntax.specs.Trees.{PlacedName, Parameter, ArraySize, Constant, SharedDeclaration, Expression, Statements, Declaration, fun, merge, shared, proc, ProgramTree}
use Rattle.typed_programs.specs.Least.{Among}
use Rattle.name_tables.specs.Names.{Name}
use Rattle.name_tables.specs.Table.{Table, find, added}
use Rattle.rev_report.specs.declared.limit.Limit.{Limit}
use Rattle.rev_report.specs.declared.limit.Limit.TheVariants as limits
use Rattle.typed_programs.specs.declared.fault.TypeFault.{TypeFault}
use Rattle.rev_report.specs.Limits.{first_past, most}
use Rattle.typed_programs.specs.Faults.{IsLimit, exceeded}
use Rattle.typed_programs.specs.Kinds.{Names, Locals, expression_place}
use Rattle.typed_programs.specs.Rules as r
use Rattle.typed_programs.proofs.Lists.{whole, passes, stops, not_found, is_unequal, added_unknown, known_more}
use Rattle.typed_programs.proofs.Typings.{All, one, app, wants_of, handle_not, complete}
use Rattle.typed_programs.specs.Laws.{LimitsAlone}
use Rattle.typed_programs.specs.Statements as s
use Rattle.typed_programs.specs.Scopes as scopes
use Rattle.typed_programs.specs.Program as p
use Rattle.typed_programs.specs.Judgement.{name_of, IsNewName, ParamsNew, FunTyped, MergeTyped, SharedTyped, ProcTyped, IsMergeOf, ByTyped, SizeTyped, FirstTyped, Returns, DeclarationTyped, DeclarationsTyped, ProgramTyped}
use Rattle.typed_programs.proofs.StatementsFaults.{AllAre, all_none, all_both, all_of, all_when, all_at, part_nothing, new_nothing, ListHolds, StatementsHold, statements_faults, list_holds, statements_hold}
use Rattle.typed_programs.proofs.Returning.{ends_return}

-- ---- what the tables of earlier declarations do not know

-- the tables of names and of merges are those of these declarations
pub record Knows (q : p.Passed) (before : List Declaration) : Type 0 where
  pub names : (name : Name) → ((e : Declaration) → Among before e → name_of e ≢ name) → find name q.names ≡ None
  pub merges : (name : Name) (e : Declaration) → Among before e → IsMergeOf name e → is_some (find name q.merges) ≡ true

pub nothing_known : Knows p.nothing_passed []
nothing_known = record {
  names = λ name h. refl;
  merges = λ name e m is. absurd m;
}

names_known : (names : Table ℕ) (n : ℕ) (before : List Declaration) (d : Declaration)
    → ((name : Name) → ((e : Declaration) → Among before e → name_of e ≢ name) → find name names ≡ None)
    → (name : Name) → ((e : Declaration) → Among (d ∷ before) e → name_of e ≢ name)
    → find name (added names (name_of d) n) ≡ None
names_known names n before d known name h =
    added_unknown name (name_of d) n names (known name (λ e m. h e (inr m))) (λ is. h d (inl refl) (sym is))

-- what is no merge leaves the table of merges
merges_left : (merges : Table ℕ) (before : List Declaration) (d : Declaration) → ((name : Name) → IsMergeOf name d → ⊥)
    → ((name : Name) (e : Declaration) → Among before e → IsMergeOf name e → is_some (find name merges) ≡ true)
    → (name : Name) (e : Declaration) → Among (d ∷ before) e → IsMergeOf name e → is_some (find name merges) ≡ true
merges_left merges before d other known name e (inl is) m =
    absurd (other name (subst (λ x. IsMergeOf name x) (sym is) m))
merges_left merges before d other known name e (inr there) m = known name e there m

merges_known : (merges : Table ℕ) (n : ℕ) (before : List Declaration) (w m j x : PlacedName) (body : Expression)
    → ((name : Name) (e : Declaration) → Among before e → IsMergeOf name e → is_some (find name merges) ≡ true)
    → (name : Name) (e : Declaration) → Among (merge w m j x body ∷ before) e → IsMergeOf name e
    → is_some (find name (added merges w.text n)) ≡ true
merges_known merges n before w m j x body known name e (inl is) same_name =
    known_more name w.text n merges (inr (sym (subst (λ y. IsMergeOf name y) (sym is) same_name)))
merges_known merges n before w m j x body known name e (inr there) same_name =
    known_more name w.text n merges (inl (known name e there same_name))

pub knows : (q : p.Passed) (before : List Declaration) (d : Declaration) → Knows q before
    → Knows (p.passed_with q d) (d ∷ before)
knows q before (fun w ps x body) f = record {
  names = names_known q.names q.number before (fun w ps x body) f.names;
  merges = merges_left q.merges before (fun w ps x body) (λ name h. h) f.merges;
}
knows q before (merge w m j x body) f = record {
  names = names_known q.names q.number before (merge w m j x body) f.names;
  merges = merges_known q.merges q.merge_count before w m j x body f.merges;
}
knows q before (shared x) f = record {
  names = names_known q.names q.number before (shared x) f.names;
  merges = merges_left q.merges before (shared x) (λ name h. h) f.merges;
}
knows q before (proc w ps x body) f = record {
  names = names_known q.names q.number before (proc w ps x body) f.names;
  merges = merges_left q.merges before (proc w ps x body) (λ name h. h) f.merges;
}

new_name : (q : p.Passed) (before : List Declaration) (w : PlacedName) → Knows q before → IsNewName before w
    → p.new_name [] one app w q.names ≡ []
new_name q before w f h = not_found (find w.text q.names) _ (f.names w.text h)

-- ---- parameters

no_handle_kind : (t : ValueKind) → t ≢ k.Rev → same_kind t k.Rev ≡ false
no_handle_kind k.Int n = refl
no_handle_kind k.Bool n = refl
no_handle_kind k.Rev n = absurd (n refl)

new_param : (w : PlacedName) (l : Locals) → find w.text l ≡ None → p.new_param [] one app w l ≡ []
new_param w l h = not_found (find w.text l) _ h

merge_params : (m j x : PlacedName) → (m.text ≢ j.text) × (m.text ≢ x.text) × (j.text ≢ x.text)
    → p.merge_params [] one app m j x ≡ []
merge_params m j x h =
    whole _ _
    (new_param j (added [] m.text (Some k.Int)) (added_unknown j.text m.text (Some k.Int) [] refl (λ e. h.0 (sym e))))
    (new_param x (added (added [] m.text (Some k.Int)) j.text (Some k.Int))
    (added_unknown x.text j.text (Some k.Int) (added [] m.text (Some k.Int))
    (added_unknown x.text m.text (Some k.Int) [] refl (λ e. h.1 (sym e))) (λ e. h.2 (sym e))))

-- ---- declarations that break no limit themselves

by_nothing : (q : p.Passed) (before : List Declaration) (o : Option PlacedName) (at : ℕ) (t : ValueKind)
    → Knows q before → ByTyped before o t
    → (p.by_use [] one app q.merges o ≡ []) × (p.cumulative_kind [] one app o at t ≡ [])
by_nothing q before None at t f h = (refl, refl)
by_nothing q before (Some w) at t f h = (
  passes (is_some (find w.text q.merges)) _ (f.merges w.text h.0.0 h.0.1 h.0.2),
  ap (λ x. p.cumulative_kind [] one app (Some w) at x) h.1,
)

size_nothing : (o : Option ArraySize) → SizeTyped o → p.size_use [] one app o ≡ []
size_nothing None h = refl
size_nothing (Some x) h = stops (nat_eq (scopes.size_cells x.cells) 0) _ (is_unequal (scopes.size_cells x.cells) 0 h)

first_nothing : (o : Option Constant) (t : ValueKind) → FirstTyped o t → p.first_value [] one app o t ≡ []
first_nothing None t h = refl
first_nothing (Some x) t h = wants_of x.at (Some (kind_of x.value)) (kind_of x.value) t refl h

returns_nothing : (w : PlacedName) (o : Option ValueKind) (body : Statements) → Returns o body
    → p.return_use [] one app w o (s.returns body) ≡ []
returns_nothing w None body h = refl
returns_nothing w (Some t) body h = passes (s.returns body) _ (ends_return body h)

-- ---- all that a declaration breaks

abbrev pub param_place : Parameter → ℕ
param_place b = b.name.at

module _ (P : TypeFault → Type 0) where
  -- it holds of the limit where parameters break it, which count as locals too
  abbrev pub ParamsHold : Limit → ℕ → List Parameter → Type 0
  ParamsHold what left ps = ListHolds P what param_place left ps

  -- it holds of each limit that a declaration breaks, behind these
  abbrev pub DeclarationHolds : p.Passed → Declaration → Type 0
  DeclarationHolds q (fun w ps x body) =
      (q.funs_left ≡ 1 → P (exceeded w.at limits.Funs)) × ParamsHold limits.Parameters (first_past limits.Parameters) ps
      × (nat_lt (most limits.Weight) (p.weight q.weights body) ≡ true → P (exceeded w.at limits.Weight))
  DeclarationHolds q (merge w m j x body) =
      (q.funs_left ≡ 1 → P (exceeded w.at limits.Funs))
      × (nat_lt (most limits.Weight) (p.weight q.weights body) ≡ true → P (exceeded w.at limits.Weight))
  DeclarationHolds q (shared x) =
      nat_le q.located (most limits.Locations) ≡ true
      → nat_lt (most limits.Locations) (p.located_after q.located (p.cells_in x.size)) ≡ true
      → P (exceeded x.name.at limits.Locations)
  DeclarationHolds q (proc w ps x body) =
      (q.procs_left ≡ 1 → P (exceeded w.at limits.Procedures))
      × ParamsHold limits.Parameters (first_past limits.Parameters) ps
      × ParamsHold limits.Locals (first_past limits.Locals) ps
      × StatementsHold P (p.left_params (first_past limits.Locals) ps) body

  abbrev pub DeclarationsHold : p.Passed → List Declaration → Type 0
  DeclarationsHold q [] = Unit {0}
  DeclarationsHold q (e ∷ es) = DeclarationHolds q e × DeclarationsHold (p.passed_with q e) es

  fun_params : (c : Names) (l : Locals) (left : ℕ) (found : All) (ps : List Parameter) → AllAre P found
      → ParamsNew c l ps → ((b : Parameter) → Among ps b → b.kind ≢ k.Rev) → ParamsHold limits.Parameters left ps
      → AllAre P (p.fun_params [] one app l left found ps)
  fun_params c l left found [] a h g v = a
  fun_params c l left found (b ∷ ps) a h g v =
      fun_params c (added l b.name.text (Some b.kind)) (left - 1) _ ps
      (all_both P _ _ a
      (all_both P _ _ (all_of P _ (new_param b.name l h.0.0))
      (all_both P _ _ (all_of P _ (stops (same_kind b.kind k.Rev) _ (no_handle_kind b.kind (g b (inl refl)))))
      (all_at P left (exceeded b.name.at limits.Parameters) v.0))))
      h.1
      (λ x m. g x (inr m)) v.1

  proc_params : (c : Names) (l : Locals) (left locals : ℕ) (found : All) (ps : List Parameter) → AllAre P found
      → ParamsNew c l ps → ParamsHold limits.Parameters left ps → ParamsHold limits.Locals locals ps
      → AllAre P (p.proc_params [] one app c l left locals found ps)
  proc_params c l left locals found [] a h v u = a
  proc_params c l left locals found (b ∷ ps) a h v u =
      proc_params c (added l b.name.text (Some b.kind)) (left - 1) (locals - 1) _ ps
      (all_both P _ _ a
      (all_both P _ _ (all_of P _ (new_nothing b.name (find b.name.text l) (c.shared b.name.text) h.0.0 h.0.1))
      (all_both P _ _ (all_at P left (exceeded b.name.at limits.Parameters) v.0)
      (all_at P locals (exceeded b.name.at limits.Locals) u.0))))
      h.1 v.1 u.1

  location_faults : (w : PlacedName) (before after : ℕ)
      → (nat_le before (most limits.Locations) ≡ true → nat_lt (most limits.Locations) after ≡ true
      → P (exceeded w.at limits.Locations))
      → AllAre P (p.location_limit [] one app w before after)
  location_faults w before after h = by (nat_le before (most limits.Locations)) h
    where
      by : (x : Bool) → (x ≡ true → nat_lt (most limits.Locations) after ≡ true → P (exceeded w.at limits.Locations))
          → AllAre P (cond x (cond (nat_lt (most limits.Locations) after) (exceeded w.at limits.Locations ∷ []) []) [])
      by true g = all_when P (nat_lt (most limits.Locations) after) (exceeded w.at limits.Locations) (g refl)
      by false g = all_none P

  shared_faults : (q : p.Passed) (before : List Declaration) (x : SharedDeclaration) → Knows q before
      → SharedTyped before x → DeclarationHolds q (shared x) → AllAre P (p.broken_in_shared [] one app q x)
  shared_faults q before x f h v =
      let cumulative = by_nothing q before x.by x.kind_at x.holds f h.by in
      all_both P _ _
      (all_both P _ _ (all_of P _ (new_name q before x.name f h.name))
      (location_faults x.name q.located (p.located_after q.located (p.cells_in x.size)) v))
      (all_of P _ (whole _ _ (whole _ _ cumulative.0 cumulative.1)
      (whole _ _ (size_nothing x.size h.size) (first_nothing x.first x.holds h.first))))

  fun_faults : (inner : Names) (q : p.Passed) (before : List Declaration) (w : PlacedName) (ps : List Parameter)
      (x : ValueKind) (body : Expression)
      → Knows q before → FunTyped inner before w ps x body → DeclarationHolds q (fun w ps x body)
      → AllAre P (p.broken_in_fun [] one app inner q w ps x body)
  fun_faults inner q before w ps x body f h v =
      let value = complete inner (scopes.with_params [] ps) body x h.body in
      let no_rev =
      ap (λ o. r.not_rev [] one app (expression_place body) o) value.1
      ∙ handle_not (expression_place body) x h.result in
      all_both P _ _
      (all_both P _ _ (all_of P _ (new_name q before w f h.name))
      (all_at P q.funs_left (exceeded w.at limits.Funs) v.0))
      (all_both P _ _
      (all_both P _ _ (fun_params inner [] (first_past limits.Parameters) [] ps (all_none P) h.params h.kinds v.1)
      (all_of P _ (stops (same_kind x k.Rev) _ (no_handle_kind x h.result))))
      (all_both P _ _ (all_of P _ (whole _ _ (part_nothing inner (scopes.with_params [] ps) body x h.body) no_rev))
      (all_when P (nat_lt (most limits.Weight) (p.weight q.weights body)) (exceeded w.at limits.Weight) v.2)))

  merge_faults : (inner : Names) (q : p.Passed) (before : List Declaration) (w m j x : PlacedName) (body : Expression)
      → Knows q before → MergeTyped inner before w m j x body → DeclarationHolds q (merge w m j x body)
      → AllAre P (p.broken_in_merge [] one app inner q w m j x body)
  merge_faults inner q before w m j x body f h v =
      all_both P _ _
      (all_both P _ _ (all_of P _ (new_name q before w f h.name))
      (all_at P q.funs_left (exceeded w.at limits.Funs) v.0))
      (all_both P _ _ (all_of P _ (merge_params m j x h.params))
      (all_both P _ _ (all_of P _ (part_nothing inner (scopes.merge_locals m j x) body k.Int h.body))
      (all_when P (nat_lt (most limits.Weight) (p.weight q.weights body)) (exceeded w.at limits.Weight) v.1)))

  proc_faults : (outer : Names) (q : p.Passed) (before : List Declaration) (w : PlacedName) (ps : List Parameter)
      (x : Option ValueKind) (body : Statements)
      → Knows q before → ProcTyped outer before w ps x body
      → DeclarationHolds q (proc w ps x body) → AllAre P (p.broken_in_proc [] one app outer q w ps x body)
  proc_faults outer q before w ps x body f h v =
      all_both P _ _
      (all_both P _ _ (all_of P _ (new_name q before w f h.name))
      (all_at P q.procs_left (exceeded w.at limits.Procedures) v.0))
      (all_both P _ _
      (all_both P _ _ (proc_params outer [] (first_past limits.Parameters) (first_past limits.Locals) [] ps (all_none P)
      h.params v.1 v.2)
      (all_of P _ (returns_nothing w x body h.result)))
      (statements_faults P outer x (scopes.with_params [] ps) (p.left_params (first_past limits.Locals) ps) [] body
      (all_none P) h.body v.3))

  declaration_faults : (outer inner : Names) (q : p.Passed) (before : List Declaration) (e : Declaration)
      → Knows q before → DeclarationTyped outer inner before e → DeclarationHolds q e
      → AllAre P (p.broken_in_declaration [] one app outer inner q e)
  declaration_faults outer inner q before (fun w ps x body) f h v = fun_faults inner q before w ps x body f h v
  declaration_faults outer inner q before (merge w m j x body) f h v = merge_faults inner q before w m j x body f h v
  declaration_faults outer inner q before (shared x) f h v = shared_faults q before x f h v
  declaration_faults outer inner q before (proc w ps x body) f h v = proc_faults outer q before w ps x body f h v

  declarations_faults : (outer inner : Names) (q : p.Passed) (before : List Declaration) (found : All)
      (es : List Declaration)
      → Knows q before → AllAre P found → DeclarationsTyped outer inner before es → DeclarationsHold q es
      → AllAre P (p.broken_in_declarations [] one app outer inner q found es)
  declarations_faults outer inner q before found [] f a h v = a
  declarations_faults outer inner q before found (e ∷ es) f a h v =
      declarations_faults outer inner (p.passed_with q e) (e ∷ before) _ es (knows q before e f)
      (all_both P _ _ a (declaration_faults outer inner q before e f h.0 v.0)) h.1 v.1

  pub program_faults : (x : ProgramTree) → ProgramTyped x → DeclarationsHold p.nothing_passed x.declarations
      → StatementsHold P (first_past limits.Locals) x.main → AllAre P (p.faults x)
  program_faults x h v u =
      all_both P _ _
      (declarations_faults (scopes.outside x.declarations) (scopes.within x.declarations) p.nothing_passed [] []
      x.declarations nothing_known (all_none P) h.declarations v)
      (statements_faults P (scopes.outside x.declarations) None [] (first_past limits.Locals) [] x.main (all_none P)
      h.main u)

  -- where it holds of every limit
  module _ (every : (at : ℕ) (what : Limit) → P (exceeded at what)) where
    params_hold : (what : Limit) (left : ℕ) (ps : List Parameter) → ParamsHold what left ps
    params_hold what left ps = list_holds P every what param_place left ps

    declaration_holds : (q : p.Passed) (e : Declaration) → DeclarationHolds q e
    declaration_holds q (fun w ps x body) = (
      λ e. every w.at limits.Funs,
      params_hold limits.Parameters (first_past limits.Parameters) ps,
      λ e. every w.at limits.Weight,
    )
    declaration_holds q (merge w m j x body) = (λ e. every w.at limits.Funs, λ e. every w.at limits.Weight)
    declaration_holds q (shared x) = λ e g. every x.name.at limits.Locations
    declaration_holds q (proc w ps x body) = (
      λ e. every w.at limits.Procedures,
      params_hold limits.Parameters (first_past limits.Parameters) ps,
      params_hold limits.Locals (first_past limits.Locals) ps,
      statements_hold P every (p.left_params (first_past limits.Locals) ps) body,
    )

    declarations_hold : (q : p.Passed) (es : List Declaration) → DeclarationsHold q es
    declarations_hold q [] = tt
    declarations_hold q (e ∷ es) = (declaration_holds q e, declarations_hold (p.passed_with q e) es)

-- all that a typed program breaks is limits
pub limits_alone : LimitsAlone
limits_alone x h =
    program_faults IsLimit x h (declarations_hold IsLimit (λ at what. tt) p.nothing_passed x.declarations)
    (statements_hold IsLimit (λ at what. tt) (first_past limits.Locals) x.main)

-- A declaration that breaks no rule is typed, and so is a whole program.
use Rattle.std.proofs.Common.{◌≡◌, ◌∙◌, ◌≢◌, inl, inr, ℕ, ◌+◌, ◌-◌, true, false, ◌&&◌, IsTrue, nat_eq, Option, Some, None, is_some, List, [], ◌∷◌, ◌++◌, refl, sym, ap, subst, length, true≢false}
use Rattle.std.specs.List.{list_all}
use Rattle.rev_num.specs.declared.value.ValueKind.{ValueKind}
use Rattle.rev_num.specs.declared.value.ValueKind.TheVariants as k
use Rattle.rev_num.specs.Value.{kind_of, same_kind}
use Rattle.rev_num.proofs.SameKinds.{same_kind_is}
use Rattle.rev_syntax.specs.Trees.{PlacedName, Parameter, ArraySize, Constant, SharedDeclaration, Expression, Statements, Declaration, fun, merge, shared, proc, ProgramTree}
use Rattle.rev_syntax.specs.Small.{name_formed, expression_small, statements_small, parameter_formed, declaration_small, IsSmall}
use Rattle.typed_programs.specs.FunRules.{broken_in, expression_uses, statements_uses, declaration_uses, declarations_uses, fun_faults, fun_named}
use Rattle.typed_programs.specs.Least.{Among}
use Rattle.name_tables.specs.Names.{Name}
use Rattle.name_tables.specs.Table.{Table, find, added}
use Rattle.typed_programs.specs.declared.expanded.FunHead.{FunHead}
use Rattle.rev_report.specs.declared.limit.Limit.TheVariants as limits
use Rattle.rev_report.specs.Limits.{first_past}
use Rattle.typed_programs.specs.Kinds.{Names, Locals}
use Rattle.typed_programs.specs.Rules as r
use Rattle.typed_programs.specs.KindLaws.{AllKinded, IsKnown}
use Rattle.typed_programs.proofs.Lists.{parts, held, failed, and_parts, unequal, unknown_added, known_added}
use Rattle.typed_programs.proofs.Typings.{All, one, app, wanted_is}
use Rattle.typed_programs.specs.Statements as s
use Rattle.typed_programs.specs.Scopes as scopes
use Rattle.typed_programs.specs.Program as p
use Rattle.typed_programs.specs.Judgement.{name_of, IsNewName, ParamsNew, FunTyped, MergeTyped, SharedTyped, ProcTyped, IsMergeOf, ByTyped, SizeTyped, FirstTyped, Returns, DeclarationTyped, DeclarationsTyped, ProgramTyped}
use Rattle.typed_programs.proofs.Applying.{broken_parts, known_fun}
use Rattle.typed_programs.proofs.StatementsSound.{kinded_added, none_kinded, new_is, part_typed, statements_typed}
use Rattle.typed_programs.proofs.Returning.{returns_end}

-- ---- what the tables of earlier declarations know

unknown_name : {V : Type 0} (o : Option V) → is_some o ≡ false → o ≡ None
unknown_name None h = refl
unknown_name (Some x) h = cc

-- the tables of names and of merges are those of these declarations
pub record Follows (q : p.Passed) (before : List Declaration) : Type 0 where
  pub names : (name : Name) → find name q.names ≡ None → (e : Declaration) → Among before e → name_of e ≢ name
  pub merges : (name : Name) → is_some (find name q.merges) ≡ true
      → (e : Declaration) × Among before e × IsMergeOf name e

pub nothing_follows : Follows p.nothing_passed []
nothing_follows = record {
  names = λ name h e m. absurd m;
  merges = λ name h. absurd (true≢false (sym h));
}

-- a further name
names_follow : (names : Table ℕ) (n : ℕ) (before : List Declaration) (d : Declaration)
    → ((name : Name) → find name names ≡ None → (e : Declaration) → Among before e → name_of e ≢ name)
    → (name : Name) → find name (added names (name_of d) n) ≡ None → (e : Declaration) → Among (d ∷ before) e
    → name_of e ≢ name
names_follow names n before d known name h e (inl is) other =
    (unknown_added name (name_of d) n names h).1 (sym (ap name_of is ∙ other))
names_follow names n before d known name h e (inr m) other =
    known name (unknown_added name (name_of d) n names h).0 e m other

merges_kept : (merges : Table ℕ) (before : List Declaration) (d : Declaration)
    → ((name : Name) → is_some (find name merges) ≡ true → (e : Declaration) × Among before e × IsMergeOf name e)
    → (name : Name) → is_some (find name merges) ≡ true → (e : Declaration) × Among (d ∷ before) e × IsMergeOf name e
merges_kept merges before d known name h = let e = known name h in (e.0, inr e.1, e.2)

merges_follow : (merges : Table ℕ) (n : ℕ) (before : List Declaration) (w m j x : PlacedName) (body : Expression)
    → ((name : Name) → is_some (find name merges) ≡ true → (e : Declaration) × Among before e × IsMergeOf name e)
    → (name : Name) → is_some (find name (added merges w.text n)) ≡ true
    → (e : Declaration) × Among (merge w m j x body ∷ before) e × IsMergeOf name e
merges_follow merges n before w m j x body known name h = elim (known_added name w.text n merges h) [
  | inl there ↦ merges_kept merges before (merge w m j x body) known name there
  | inr is ↦ (merge w m j x body, inl refl, sym is)
]

pub follows : (q : p.Passed) (before : List Declaration) (d : Declaration) → Follows q before
    → Follows (p.passed_with q d) (d ∷ before)
follows q before (fun w ps x body) f = record {
  names = names_follow q.names q.number before (fun w ps x body) f.names;
  merges = merges_kept q.merges before (fun w ps x body) f.merges;
}
follows q before (merge w m j x body) f = record {
  names = names_follow q.names q.number before (merge w m j x body) f.names;
  merges = merges_follow q.merges q.merge_count before w m j x body f.merges;
}
follows q before (shared x) f = record {
  names = names_follow q.names q.number before (shared x) f.names;
  merges = merges_kept q.merges before (shared x) f.merges;
}
follows q before (proc w ps x body) f = record {
  names = names_follow q.names q.number before (proc w ps x body) f.names;
  merges = merges_kept q.merges before (proc w ps x body) f.merges;
}

new_name : (q : p.Passed) (before : List Declaration) (w : PlacedName) → Follows q before
    → p.new_name [] one app w q.names ≡ [] → IsNewName before w
new_name q before w f h =
    f.names w.text (unknown_name (find w.text q.names) (failed (is_some (find w.text q.names)) _ h))

-- ---- parameters

pub params_kinded : (l : Locals) (ps : List Parameter) → AllKinded l → AllKinded (scopes.with_params l ps)
params_kinded l [] a = a
params_kinded l (b ∷ ps) a = params_kinded (added l b.name.text (Some b.kind)) ps (kinded_added l b.name.text b.kind a)

not_handle : (t : ValueKind) → same_kind t k.Rev ≡ false → t ≢ k.Rev
not_handle k.Int h e = cc
not_handle k.Bool h e = cc
not_handle k.Rev h e = absurd (true≢false h)

new_param : (w : PlacedName) (l : Locals) → p.new_param [] one app w l ≡ [] → find w.text l ≡ None
new_param w l h = unknown_name (find w.text l) (failed (is_some (find w.text l)) _ h)

fun_params : (c : Names) (l : Locals) (left : ℕ) (found : All) (ps : List Parameter)
    → ((name : Name) → c.shared name ≡ None) → p.fun_params [] one app l left found ps ≡ []
    → (found ≡ []) × ParamsNew c l ps × ((b : Parameter) → Among ps b → b.kind ≢ k.Rev)
fun_params c l left found [] dark h = (h, tt, λ b m. absurd m)
fun_params c l left found (b ∷ ps) dark h =
    let rest =
    fun_params c (added l b.name.text (Some b.kind)) (left - 1) (found ++ p.fun_param [] one app l left b) ps dark h in
    let here = parts found _ rest.0 in
    let name = parts (p.new_param [] one app b.name l) _ here.1 in
    let kind = failed (same_kind b.kind k.Rev) _ (parts (p.no_rev_param [] one app b) _ name.1).0 in (
      here.0,
      ((new_param b.name l name.0, dark b.name.text), rest.1),
      λ x m. elim m [ inl is ↦ subst (λ y. y.kind ≢ k.Rev) is (not_handle b.kind kind) | inr n ↦ rest.2 x n ],
    )

proc_params : (c : Names) (l : Locals) (left locals : ℕ) (found : All) (ps : List Parameter)
    → p.proc_params [] one app c l left locals found ps ≡ [] → (found ≡ []) × ParamsNew c l ps
proc_params c l left locals found [] h = (h, tt)
proc_params c l left locals found (b ∷ ps) h =
    let rest =
    proc_params c (added l b.name.text (Some b.kind)) (left - 1) (locals - 1)
    (found ++ p.proc_param [] one app c l left locals b) ps h in
    let here = parts found _ rest.0 in
    let name = parts (s.new_local [] one app b.name (find b.name.text l) (c.shared b.name.text)) _ here.1 in
    (here.0, (new_is b.name (find b.name.text l) (c.shared b.name.text) name.0, rest.1))

merge_params : (m j x : PlacedName) → p.merge_params [] one app m j x ≡ []
    → (m.text ≢ j.text) × (m.text ≢ x.text) × (j.text ≢ x.text)
merge_params m j x h =
    let one_local = added [] m.text (Some k.Int) in
    let both = parts (p.new_param [] one app j (added [] m.text (Some k.Int))) _ h in
    let first = unknown_added j.text m.text (Some k.Int) [] (new_param j (added [] m.text (Some k.Int)) both.0) in
    let second =
    unknown_added x.text j.text (Some k.Int) (added [] m.text (Some k.Int))
    (new_param x (added (added [] m.text (Some k.Int)) j.text (Some k.Int)) both.1) in
    let third = unknown_added x.text m.text (Some k.Int) [] second.0 in
    (λ e. first.1 (sym e), λ e. third.1 (sym e), λ e. second.1 (sym e))

-- ---- declarations

by_typed : (q : p.Passed) (before : List Declaration) (o : Option PlacedName) (at : ℕ) (t : ValueKind)
    → Follows q before → p.by_use [] one app q.merges o ≡ [] → p.cumulative_kind [] one app o at t ≡ []
    → ByTyped before o t
by_typed q before None at t f h g = tt
by_typed q before (Some w) at t f h g =
    (f.merges w.text (held (is_some (find w.text q.merges)) _ h), same_kind_is t k.Int (held (same_kind t k.Int) _ g))

size_typed : (o : Option ArraySize) → p.size_use [] one app o ≡ [] → SizeTyped o
size_typed None h = tt
size_typed (Some x) h = unequal (scopes.size_cells x.cells) 0 (failed (nat_eq (scopes.size_cells x.cells) 0) _ h)

first_typed : (o : Option Constant) (t : ValueKind) → p.first_value [] one app o t ≡ [] → FirstTyped o t
first_typed None t h = tt
first_typed (Some x) t h = wanted_is x.at (Some (kind_of x.value)) (kind_of x.value) t refl h

returns_typed : (w : PlacedName) (o : Option ValueKind) (body : Statements)
    → p.return_use [] one app w o (s.returns body) ≡ [] → Returns o body
returns_typed w None body h = tt
returns_typed w (Some t) body h = returns_end body (held (s.returns body) _ h)

fun_result : (w : PlacedName) (t : ValueKind) → p.fun_result [] one app w t ≡ [] → t ≢ k.Rev
fun_result w t h = not_handle t (failed (same_kind t k.Rev) _ h)

shared_typed : (q : p.Passed) (before : List Declaration) (x : SharedDeclaration) → Follows q before
    → p.broken_in_shared [] one app q x ≡ [] → SharedTyped before x
shared_typed q before x f h =
    let both =
    parts (p.new_name [] one app x.name q.names
    ++ p.location_limit [] one app x.name q.located (p.located_after q.located (p.cells_in x.size)))
    _ h in
    let name = parts (p.new_name [] one app x.name q.names) _ both.0 in
    let more =
    parts (p.by_use [] one app q.merges x.by ++ p.cumulative_kind [] one app x.by x.kind_at x.holds) _ both.1 in
    let cumulative = parts (p.by_use [] one app q.merges x.by) _ more.0 in
    let last = parts (p.size_use [] one app x.size) _ more.1 in record {
      name = new_name q before x.name f name.0;
      by = by_typed q before x.by x.kind_at x.holds f cumulative.0 cumulative.1;
      size = size_typed x.size last.0;
      first = first_typed x.first x.holds last.1;
    }

-- where names mean these funs, and no shared variable is known inside
module _ (named : Name → Option FunHead) (outer inner : Names)
    (known : (name : Name) (h : FunHead) → named name ≡ Some h → IsKnown h.params (outer.funs name))
    (known_inside : (name : Name) (h : FunHead) → named name ≡ Some h → IsKnown h.params (inner.funs name))
    (dark : (name : Name) → inner.shared name ≡ None) where
  fun_typed : (q : p.Passed) (before : List Declaration) (n : ℕ) (w : PlacedName) (ps : List Parameter) (x : ValueKind)
      (body : Expression)
      → Follows q before
      → broken_in named (expression_uses n body) ≡ [] → IsTrue (expression_small body)
      → p.broken_in_fun [] one app inner q w ps x body ≡ [] → FunTyped inner before w ps x body
  fun_typed q before n w ps x body f u sm h =
      let both = parts (p.new_name [] one app w q.names ++ p.limit_at [] one app w.at limits.Funs q.funs_left) _ h in
      let name = parts (p.new_name [] one app w q.names) _ both.0 in
      let more =
      parts (p.fun_params [] one app [] (first_past limits.Parameters) [] ps ++ p.fun_result [] one app w x) _ both.1 in
      let head = parts (p.fun_params [] one app [] (first_past limits.Parameters) [] ps) _ more.0 in
      let params = fun_params inner [] (first_past limits.Parameters) [] ps dark head.0 in
      let last = parts (p.fun_body [] one app inner (scopes.with_params [] ps) x body) _ more.1 in
      let value = parts (r.part_by [] one app inner (scopes.with_params [] ps) body x) _ last.0 in record {
        name = new_name q before w f name.0;
        params = params.1;
        kinds = params.2;
        result = fun_result w x head.1;
        body = part_typed named inner known_inside n (scopes.with_params [] ps) body x (params_kinded [] ps none_kinded)
            u sm value.0;
      }

  merge_typed : (q : p.Passed) (before : List Declaration) (n : ℕ) (w m j x : PlacedName) (body : Expression)
      → Follows q before
      → broken_in named (expression_uses n body) ≡ [] → IsTrue (expression_small body)
      → p.broken_in_merge [] one app inner q w m j x body ≡ [] → MergeTyped inner before w m j x body
  merge_typed q before n w m j x body f u sm h =
      let both = parts (p.new_name [] one app w q.names ++ p.limit_at [] one app w.at limits.Funs q.funs_left) _ h in
      let name = parts (p.new_name [] one app w q.names) _ both.0 in
      let more = parts (p.merge_params [] one app m j x) _ both.1 in
      let last = parts (r.part_by [] one app inner (scopes.merge_locals m j x) body k.Int) _ more.1 in
      let kinded =
      kinded_added (added (added [] m.text (Some k.Int)) j.text (Some k.Int)) x.text k.Int
      (kinded_added (added [] m.text (Some k.Int)) j.text k.Int (kinded_added [] m.text k.Int none_kinded)) in record {
        name = new_name q before w f name.0;
        params = merge_params m j x more.0;
        body = part_typed named inner known_inside n (scopes.merge_locals m j x) body k.Int kinded u sm last.0;
      }

  proc_typed : (q : p.Passed) (before : List Declaration) (n : ℕ) (w : PlacedName) (ps : List Parameter)
      (x : Option ValueKind) (body : Statements)
      → Follows q before
      → broken_in named (statements_uses n body) ≡ [] → IsTrue (statements_small body)
      → p.broken_in_proc [] one app outer q w ps x body ≡ [] → ProcTyped outer before w ps x body
  proc_typed q before n w ps x body f u sm h =
      let both =
      parts (p.new_name [] one app w q.names ++ p.limit_at [] one app w.at limits.Procedures q.procs_left) _ h in
      let name = parts (p.new_name [] one app w q.names) _ both.0 in
      let more =
      parts (p.proc_params [] one app outer [] (first_past limits.Parameters) (first_past limits.Locals) [] ps
      ++ p.return_use [] one app w x (s.returns body))
      _ both.1 in
      let head =
      parts (p.proc_params [] one app outer [] (first_past limits.Parameters) (first_past limits.Locals) [] ps) _
      more.0 in record {
        name = new_name q before w f name.0;
        params = (proc_params outer [] (first_past limits.Parameters) (first_past limits.Locals) [] ps head.0).1;
        result = returns_typed w x body head.1;
        body = statements_typed named outer known n x (scopes.with_params [] ps)
            (p.left_params (first_past limits.Locals) ps) [] body (params_kinded [] ps none_kinded) u sm more.1;
      }

  declaration_typed : (q : p.Passed) (before : List Declaration) (n d : ℕ) (e : Declaration) → Follows q before
      → broken_in named (declaration_uses n d e) ≡ [] → IsTrue (declaration_small e)
      → p.broken_in_declaration [] one app outer inner q e ≡ [] → DeclarationTyped outer inner before e
  declaration_typed q before n d (fun w ps x body) f u sm h =
      fun_typed q before d w ps x body f u
      (and_parts (name_formed w && list_all parameter_formed ps) (expression_small body) sm).1 h
  declaration_typed q before n d (merge w m j x body) f u sm h =
      merge_typed q before d w m j x body f u
      (and_parts (name_formed w && name_formed m && name_formed j && name_formed x) (expression_small body) sm).1 h
  declaration_typed q before n d (shared x) f u sm h = shared_typed q before x f h
  declaration_typed q before n d (proc w ps x body) f u sm h =
      proc_typed q before n w ps x body f u
      (and_parts (name_formed w && list_all parameter_formed ps) (statements_small body) sm).1 h

  declarations_typed : (q : p.Passed) (before : List Declaration) (found : All) (n d : ℕ) (es : List Declaration)
      → Follows q before → broken_in named (declarations_uses n d es) ≡ [] → IsTrue (list_all declaration_small es)
      → p.broken_in_declarations [] one app outer inner q found es ≡ []
      → (found ≡ []) × DeclarationsTyped outer inner before es
  declarations_typed q before found n d [] f u sm h = (h, tt)
  declarations_typed q before found n d (e ∷ es) f u sm h =
      let us = broken_parts named (declaration_uses n d e) (declarations_uses n (d + 1) es) u in
      let fs = and_parts (declaration_small e) (list_all declaration_small es) sm in
      let rest =
      declarations_typed (p.passed_with q e) (e ∷ before) (found ++ p.broken_in_declaration [] one app outer inner q e)
      n (d + 1) es (follows q before e f) us.1 fs.1 h in
      let here = parts found _ rest.0 in
      (here.0, (declaration_typed q before n d e f us.0 fs.0 here.1, rest.1))

-- a small program that breaks no rule on funs and none of the others is typed
pub program_typed : (x : ProgramTree) → IsSmall x → fun_faults x ≡ [] → p.faults x ≡ [] → ProgramTyped x
program_typed x small u h =
    let named : Name → Option FunHead = fun_named x in
    let known : (name : Name) (g : FunHead) → fun_named x name ≡ Some g
    → IsKnown g.params (scopes.fun_named x.declarations name) = known_fun 0 0 x.declarations in
    let us = broken_parts (fun_named x) (declarations_uses (length x.declarations) 0 x.declarations)
    (statements_uses (length x.declarations) x.main) u in
    let both =
    parts (p.broken_in_declarations [] one app (scopes.outside x.declarations) (scopes.within x.declarations)
    p.nothing_passed [] x.declarations)
    _ h in record {
      declarations =
          (declarations_typed (fun_named x) (scopes.outside x.declarations) (scopes.within x.declarations) known known
          (λ name. refl) p.nothing_passed [] [] (length x.declarations) 0 x.declarations nothing_follows us.0
          small.declarations both.0).1;
      main = statements_typed (fun_named x) (scopes.outside x.declarations) known (length x.declarations) None []
          (first_past limits.Locals) [] x.main none_kinded us.1 small.main both.1;
    }

-- Tables of names find the first declaration of each name.
use Rattle.std.proofs.Common.{◌≡◌, ◌∙◌, ℕ, Bool, true, false, cond, if◌then◌else◌, Option, Some, None, option_map, is_some, List, [], ◌∷◌, ◌++◌, refl, sym, ap}
use Rattle.rev_syntax.specs.Trees.{Declaration, fun, merge, shared, proc, ProgramTree}
use Rattle.name_tables.specs.Names.{Name, same}
use Rattle.name_tables.specs.Table.{Table, find, added}
use Rattle.name_tables.proofs.Tables.{or_else, or_else-step, find-added, or_else-none}
use Rattle.rev_report.specs.declared.limit.Limit.TheVariants as limits
use Rattle.typed_programs.specs.declared.names.Holder.{Holder}
use Rattle.rev_kinds.specs.declared.names.Callee as held
use Rattle.rev_kinds.specs.declared.names.Checker as held_checker
use Rattle.rev_report.specs.Limits.{first_past}
use Rattle.typed_programs.specs.Kinds.{Callee, Locals}
use Rattle.rev_kinds.specs.Walk.{Fault, both, callee, names_of}
use Rattle.typed_programs.specs.Program as p
use Rattle.typed_programs.specs.Scopes as scopes
use Rattle.rev_types.specs.Tables.{shared_table, proc_table, fun_table, callees}
use Rattle.rev_types.specs.Walk.{broken_in_declarations, broken_in_program, broken_in_statements}

module _ {V : Type 0} where
  -- a further entry, and then what is behind it
  turn : (name w : Name) (x : V) (t : Table V) (rest : Option V)
      → or_else (find name (added t w x)) rest ≡ or_else (find name t) (if same name w then Some x else rest)
  turn name w x t rest =
      ap (λ o. or_else o rest) (find-added name w x t) ∙ or_else-step (find name t) (same name w) x rest

shared_found : (name : Name) (t : Table Holder) (es : List Declaration)
    → find name (shared_table t es) ≡ or_else (find name t) (scopes.shared_named es name)
shared_found name t [] = sym (or_else-none (find name t))
shared_found name t (shared x ∷ es) =
    shared_found name (added t x.name.text (scopes.holder x)) es
    ∙ turn name x.name.text (scopes.holder x) t (scopes.shared_named es name)
shared_found name t (fun w ps r body ∷ es) = shared_found name t es
shared_found name t (merge w m j r body ∷ es) = shared_found name t es
shared_found name t (proc w ps r body ∷ es) = shared_found name t es

proc_found : (name : Name) (t : Table Callee) (es : List Declaration)
    → find name (proc_table t es) ≡ or_else (find name t) (scopes.proc_named es name)
proc_found name t [] = sym (or_else-none (find name t))
proc_found name t (proc w ps r body ∷ es) =
    proc_found name (added t w.text (record { params = ps; result = r })) es
    ∙ turn name w.text (record { params = ps; result = r }) t (scopes.proc_named es name)
proc_found name t (fun w ps r body ∷ es) = proc_found name t es
proc_found name t (merge w m j r body ∷ es) = proc_found name t es
proc_found name t (shared x ∷ es) = proc_found name t es

fun_found : (name : Name) (t : Table Callee) (es : List Declaration)
    → find name (fun_table t es) ≡ or_else (find name t) (scopes.fun_named es name)
fun_found name t [] = sym (or_else-none (find name t))
fun_found name t (fun w ps r body ∷ es) =
    fun_found name (added t w.text (record { params = ps; result = Some r })) es
    ∙ turn name w.text (record { params = ps; result = Some r }) t (scopes.fun_named es name)
fun_found name t (merge w m j r body ∷ es) = fun_found name t es
fun_found name t (shared x ∷ es) = fun_found name t es
fun_found name t (proc w ps r body ∷ es) = fun_found name t es

-- a look-up in a table as a contract sees it
callees_found : (name : Name) (t : Table held.Callee) → find name (callees t) ≡ option_map callee (find name t)
callees_found name [] = refl
callees_found name (e ∷ t) = by (same name e.0) (callees_found name t)
  where
    by : (b : Bool) → find name (callees t) ≡ option_map callee (find name t)
        → cond b (Some (callee e.1)) (find name (callees t)) ≡ option_map callee (cond b (Some e.1) (find name t))
    by true h = refl
    by false h = h

is_some_mapped : {A B : Type 0} (f : A → B) (o : Option A) → is_some (option_map f o) ≡ is_some o
is_some_mapped f None = refl
is_some_mapped f (Some x) = refl

callees_push : (t : Table held.Callee) (name : Name) (x : held.Callee)
    → callees (t ++ (name, x) ∷ []) ≡ callees t ++ (name, callee x) ∷ []
callees_push [] name x = refl
callees_push (e ∷ t) name x = ap (λ r. (e.0, callee e.1) ∷ r) (callees_push t name x)

-- a further entry, as a contract sees it
pub callees_added : (t : Table held.Callee) (name : Name) (x : held.Callee)
    → callees (added t name x) ≡ added (callees t) name (callee x)
callees_added t name x =
    by (is_some (find name t))
    ∙ ap (λ b. cond b (callees t) (callees t ++ (name, callee x) ∷ []))
    (sym (ap is_some (callees_found name t) ∙ is_some_mapped callee (find name t)))
  where
    by : (b : Bool) → callees (cond b t (t ++ (name, x) ∷ [])) ≡ cond b (callees t) (callees t ++ (name, callee x) ∷ [])
    by true = refl
    by false = callees_push t name x

-- what names mean to a checker with these tables, outside of funs and merges
pub outer_names : (c : held_checker.Checker) (es : List Declaration) → c.inside ≡ false
    → c.shared.now ≡ shared_table [] es → callees c.procs.now ≡ proc_table [] es → callees c.funs.now ≡ fun_table [] es
    → names_of c ≡ scopes.outside es
outer_names c es o s q f = λ i. record {
  shared = λ name. ((λ j. if o j then None else find name (s j)) ∙ shared_found name [] es) i;
  procs = λ name. (sym (callees_found name c.procs.now) ∙ ap (λ t. find name t) q ∙ proc_found name [] es) i;
  funs = λ name. (sym (callees_found name c.funs.now) ∙ ap (λ t. find name t) f ∙ fun_found name [] es) i;
  inside = o i;
}

-- and inside of them
pub inner_names : (c : held_checker.Checker) (es : List Declaration) → c.inside ≡ true
    → callees c.procs.now ≡ proc_table [] es → callees c.funs.now ≡ fun_table [] es
    → names_of c ≡ scopes.within es
inner_names c es o q f = λ i. record {
  shared = λ name. if o i then None else find name c.shared.now;
  procs = λ name. (sym (callees_found name c.procs.now) ∙ ap (λ t. find name t) q ∙ proc_found name [] es) i;
  funs = λ name. (sym (callees_found name c.funs.now) ∙ ap (λ t. find name t) f ∙ fun_found name [] es) i;
  inside = o i;
}

-- the first fault of a program is that of its declarations or of `main`, by checkers with its tables
pub program_found :
    (q : ProgramTree) (o i : held_checker.Checker) {es : List Declaration} {l : Locals} {left : ℕ} {d m x : Fault}
    → es ≡ q.declarations → l ≡ [] → left ≡ first_past limits.Locals
    → o.inside ≡ false → o.shared.now ≡ shared_table [] es → callees o.procs.now ≡ proc_table [] es
    → callees o.funs.now ≡ fun_table [] es
    → i.inside ≡ true → callees i.procs.now ≡ proc_table [] es → callees i.funs.now ≡ fun_table [] es
    → d ≡ broken_in_declarations (names_of o) (names_of i) p.nothing_passed None es
    → m ≡ broken_in_statements (names_of o) None l left None q.main → x ≡ both d m
    → x ≡ broken_in_program q
program_found q o i {es} pe pl pn oi os op of ii ip if' hd hm hx =
    let outer =
    outer_names o q.declarations oi (os ∙ ap (λ es. shared_table [] es) pe) (op ∙ ap (λ es. proc_table [] es) pe)
    (of ∙ ap (λ es. fun_table [] es) pe) in
    let inner =
    inner_names i q.declarations ii (ip ∙ ap (λ es. proc_table [] es) pe) (if' ∙ ap (λ es. fun_table [] es) pe) in
    hx
    ∙ (λ j. both ((hd ∙ (λ k. broken_in_declarations (outer k) (inner k) p.nothing_passed None (pe k))) j)
    ((hm ∙ (λ k. broken_in_statements (outer k) None (pl k) (pn k) None q.main)) j))

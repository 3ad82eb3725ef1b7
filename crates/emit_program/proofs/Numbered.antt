-- The tables of names say what the numbers of a program are.
use Rattle.std.proofs.Common.{◌≡◌, ◌∙◌, ℕ, suc, ◌+◌, Bool, true, false, if◌then◌else◌, Option, Some, None, option_map, is_some, List, [], ◌∷◌, ◌++◌, length, refl, ap, sym, arith}
use Rattle.rev_syntax.specs.Trees.{Declaration, fun, merge, shared, proc, ProgramTree}
use Rattle.name_tables.specs.Names.{Name, same}
use Rattle.name_tables.specs.Table.{Table, find, added}
use Rattle.name_tables.proofs.Tables.{or_else, or_else-step, find-added, or_else-none}
use Rattle.typed_programs.specs.Kinds.{Callee}
use Rattle.typed_programs.specs.Layout.{variables_behind, variables}
use Rattle.typed_programs.specs.Limits as limit
use Rattle.typed_programs.specs.Scopes.{proc_named}
use Rattle.code_generation.specs.Numbers.{var_number, fun_number, proc_number, has_result, numbers}
use Rattle.emit_code.specs.declared.known.NameNumbers.{NameNumbers}
use Rattle.emit_code.specs.Naming.{or_next, number_in, gives_in, numbers_of}
use Rattle.emit_program.specs.Numbering.{with_declaration, with_declarations, var_total, value_total, proc_total}

-- ---- one more name

entered_step : (o : Option ℕ) (b : Bool) (k r : ℕ)
    → or_next (k + 1 + r) (or_else o (if b then Some k else None)) ≡ or_next (k + (if b then 0 else suc r)) o
entered_step (Some n) b k r = refl
entered_step None true k r = let z : k ≡ k + 0 = omega arith in z
entered_step None false k r = let z : k + 1 + r ≡ k + suc r = omega arith in z

found_step : (name w : Name) (t : Table ℕ) (k r : ℕ)
    → or_next (k + 1 + r) (find name (added t w k)) ≡ or_next (k + (if same name w then 0 else suc r)) (find name t)
found_step name w t k r =
    ap (λ o. or_next (k + 1 + r) o) (find-added name w k t) ∙ entered_step (find name t) (same name w) k r

next_later : (o : Option ℕ) (k r : ℕ) → or_next (k + 1 + r) o ≡ or_next (k + suc r) o
next_later o k r = let z : k + 1 + r ≡ k + suc r = omega arith in ap (λ x. or_next x o) z

next_last : (o : Option ℕ) (k : ℕ) → or_next k o ≡ or_next (k + 0) o
next_last o k = let z : k ≡ k + 0 = omega arith in ap (λ x. or_next x o) z

-- ---- declarations in order

vars_numbered : (name : Name) (n : NameNumbers) (before es : List Declaration)
    → number_in (with_declarations n es).vars name
    ≡ or_next (n.vars.next + var_number name (variables_behind before es)) (find name n.vars.table)
vars_numbered name n before [] = next_last (find name n.vars.table) n.vars.next
vars_numbered name n before (shared x ∷ es) =
    vars_numbered name (with_declaration n (shared x)) (before ++ shared x ∷ []) es
    ∙ found_step name x.name.text n.vars.table n.vars.next
    (var_number name (variables_behind (before ++ shared x ∷ []) es))
vars_numbered name n before (fun w ps r body ∷ es) =
    vars_numbered name (with_declaration n (fun w ps r body)) (before ++ fun w ps r body ∷ []) es
vars_numbered name n before (merge w m j r body ∷ es) =
    vars_numbered name (with_declaration n (merge w m j r body)) (before ++ merge w m j r body ∷ []) es
vars_numbered name n before (proc w ps r body ∷ es) =
    vars_numbered name (with_declaration n (proc w ps r body)) (before ++ proc w ps r body ∷ []) es

funs_numbered : (name : Name) (n : NameNumbers) (es : List Declaration)
    → number_in (with_declarations n es).funs name ≡ or_next (n.funs.next + fun_number name es) (find name n.funs.table)
funs_numbered name n [] = next_last (find name n.funs.table) n.funs.next
funs_numbered name n (fun w ps r body ∷ es) =
    funs_numbered name (with_declaration n (fun w ps r body)) es
    ∙ found_step name w.text n.funs.table n.funs.next (fun_number name es)
funs_numbered name n (merge w m j r body ∷ es) =
    funs_numbered name (with_declaration n (merge w m j r body)) es
    ∙ next_later (find name n.funs.table) n.funs.next (fun_number name es)
funs_numbered name n (shared x ∷ es) = funs_numbered name (with_declaration n (shared x)) es
funs_numbered name n (proc w ps r body ∷ es) = funs_numbered name (with_declaration n (proc w ps r body)) es

procs_numbered : (name : Name) (n : NameNumbers) (es : List Declaration)
    → number_in (with_declarations n es).procs name
    ≡ or_next (n.procs.next + proc_number name es) (find name n.procs.table)
procs_numbered name n [] = next_last (find name n.procs.table) n.procs.next
procs_numbered name n (proc w ps r body ∷ es) =
    procs_numbered name (with_declaration n (proc w ps r body)) es
    ∙ found_step name w.text n.procs.table n.procs.next (proc_number name es)
procs_numbered name n (fun w ps r body ∷ es) = procs_numbered name (with_declaration n (fun w ps r body)) es
procs_numbered name n (merge w m j r body ∷ es) = procs_numbered name (with_declaration n (merge w m j r body)) es
procs_numbered name n (shared x ∷ es) = procs_numbered name (with_declaration n (shared x)) es

-- ---- results

abbrev gives : Callee → Bool
gives f = is_some f.result

gives_step : (o rest : Option Callee) (b : Bool) (f : Callee) (p : Option Bool)
    → or_else p (if b then Some (gives f) else option_map gives rest)
    ≡ or_else p (option_map gives (if b then Some f else rest))
gives_step o rest true f p = refl
gives_step o rest false f p = refl

gives_numbered : (name : Name) (n : NameNumbers) (es : List Declaration)
    → find name (with_declarations n es).gives ≡ or_else (find name n.gives) (option_map gives (proc_named es name))
gives_numbered name n [] = sym (or_else-none (find name n.gives))
gives_numbered name n (proc w ps r body ∷ es) =
    gives_numbered name (with_declaration n (proc w ps r body)) es
    ∙ ap (λ o. or_else o (option_map gives (proc_named es name))) (find-added name w.text (is_some r) n.gives)
    ∙ or_else-step (find name n.gives) (same name w.text) (is_some r) (option_map gives (proc_named es name))
    ∙ gives_step None (proc_named es name) (same name w.text) (record { params = ps; result = r }) (find name n.gives)
gives_numbered name n (fun w ps r body ∷ es) = gives_numbered name (with_declaration n (fun w ps r body)) es
gives_numbered name n (merge w m j r body ∷ es) = gives_numbered name (with_declaration n (merge w m j r body)) es
gives_numbered name n (shared x ∷ es) = gives_numbered name (with_declaration n (shared x)) es

gives_is : (o : Option Callee) → gives_in (option_map gives o) ≡ has_result o
gives_is None = refl
gives_is (Some f) = refl

-- ---- the numbers of a program

pub record Starts (n : NameNumbers) (first : ℕ) : Type 0 where
  pub vars : n.vars.table ≡ []
  pub vars_next : n.vars.next ≡ 0
  pub funs : n.funs.table ≡ []
  pub funs_next : n.funs.next ≡ 0
  pub procs : n.procs.table ≡ []
  pub procs_next : n.procs.next ≡ first
  pub gives : n.gives ≡ []

from_nothing : (k : ℕ) → 0 + k ≡ k
from_nothing k = omega arith

pub numbered : (p : ProgramTree) (n : NameNumbers) → Starts n (limit.funs p.declarations)
    → numbers_of (with_declarations n p.declarations) ≡ numbers p
numbered p n s = λ i. record {
  var = λ name.
      (vars_numbered name n [] p.declarations
      ∙ (λ j. or_next (s.vars_next j + var_number name (variables p)) (find name (s.vars j)))
      ∙ from_nothing (var_number name (variables p))) i;
  fun = λ name.
      (funs_numbered name n p.declarations
      ∙ (λ j. or_next (s.funs_next j + fun_number name p.declarations) (find name (s.funs j)))
      ∙ from_nothing (fun_number name p.declarations)) i;
  proc = λ name.
      (procs_numbered name n p.declarations
      ∙ (λ j. or_next (s.procs_next j + proc_number name p.declarations) (find name (s.procs j)))) i;
  gives = λ name.
      (ap gives_in (gives_numbered name n p.declarations
      ∙ (λ j. or_else (find name (s.gives j)) (option_map gives (proc_named p.declarations name))))
      ∙ gives_is (proc_named p.declarations name)) i;
}

-- ---- counts

pub vars_counted : (before es : List Declaration) → var_total es ≡ length (variables_behind before es)
vars_counted before [] = refl
vars_counted before (shared x ∷ es) = let h = vars_counted (before ++ shared x ∷ []) es in omega (arith, h)
vars_counted before (fun w ps r body ∷ es) =
    let h = vars_counted (before ++ fun w ps r body ∷ []) es in omega (arith, h)
vars_counted before (merge w m j r body ∷ es) =
    let h = vars_counted (before ++ merge w m j r body ∷ []) es in omega (arith, h)
vars_counted before (proc w ps r body ∷ es) =
    let h = vars_counted (before ++ proc w ps r body ∷ []) es in omega (arith, h)

pub values_counted : (es : List Declaration) → value_total es ≡ limit.funs es
values_counted [] = refl
values_counted (fun w ps r body ∷ es) = let h = values_counted es in omega (arith, h)
values_counted (merge w m j r body ∷ es) = let h = values_counted es in omega (arith, h)
values_counted (shared x ∷ es) = let h = values_counted es in omega (arith, h)
values_counted (proc w ps r body ∷ es) = let h = values_counted es in omega (arith, h)

pub procs_counted : (es : List Declaration) → proc_total es ≡ limit.procs es
procs_counted [] = refl
procs_counted (proc w ps r body ∷ es) = let h = procs_counted es in omega (arith, h)
procs_counted (fun w ps r body ∷ es) = let h = procs_counted es in omega (arith, h)
procs_counted (merge w m j r body ∷ es) = let h = procs_counted es in omega (arith, h)
procs_counted (shared x ∷ es) = let h = procs_counted es in omega (arith, h)

-- What names mean in code: numbers of variables, of blocks and of locals.
--
-- Blocks are the funs and merges in order of declaration, then the procedures in order, then `main`. Of two
-- declarations of one name the first counts. Locals are numbered with the parameters first and then the `let` names in
-- order, those of blocks that have ended too; the scope says which of them a name means.
use Rattle.std.specs.Prelude.{ℕ, zero, suc, ◌+◌, Bool, false, if◌then◌else◌, Option, Some, None, is_some, List, [], ◌∷◌}
use Rattle.rev_syntax.specs.Trees.{Parameter, StatementForm, Statement, statement, bind, assign, assign_cell, choose, choose_or, repeat, call, return, fork, join, print, assert, Declaration, fun, merge, shared, proc, ProgramTree}
use Rattle.name_tables.specs.Names.{Name, same}
use Rattle.name_tables.specs.Table.{Table, added}
use Rattle.typed_programs.specs.Kinds.{Callee}
use Rattle.typed_programs.specs.Limits.{funs}
use Rattle.typed_programs.specs.Layout.{SharedVariable, variables}
use Rattle.typed_programs.specs.Scopes.{proc_named}

-- ---- in a program

-- the number of the first variable of a name
abbrev pub var_number : Name → List SharedVariable → ℕ
var_number name [] = 0
var_number name (x ∷ xs) = if same name x.declared.name.text then 0 else suc (var_number name xs)

-- the block of the first fun of a name
abbrev pub fun_number : Name → List Declaration → ℕ
fun_number name [] = 0
fun_number name (fun w ps r body ∷ es) = if same name w.text then 0 else suc (fun_number name es)
fun_number name (merge w m j r body ∷ es) = suc (fun_number name es)
fun_number name (shared x ∷ es) = fun_number name es
fun_number name (proc w ps r body ∷ es) = fun_number name es

-- the block of a merge, of which this many are declared before
abbrev pub merge_number : ℕ → List Declaration → ℕ
merge_number k [] = 0
merge_number k (fun w ps r body ∷ es) = suc (merge_number k es)
merge_number zero (merge w m j r body ∷ es) = 0
merge_number (suc k) (merge w m j r body ∷ es) = suc (merge_number k es)
merge_number k (shared x ∷ es) = merge_number k es
merge_number k (proc w ps r body ∷ es) = merge_number k es

-- the number of the first procedure of a name, among the procedures
abbrev pub proc_number : Name → List Declaration → ℕ
proc_number name [] = 0
proc_number name (proc w ps r body ∷ es) = if same name w.text then 0 else suc (proc_number name es)
proc_number name (fun w ps r body ∷ es) = proc_number name es
proc_number name (merge w m j r body ∷ es) = proc_number name es
proc_number name (shared x ∷ es) = proc_number name es

abbrev pub has_result : Option Callee → Bool
has_result None = false
has_result (Some f) = is_some f.result

pub record Numbers : Type 0 where
  -- a shared variable
  pub var : Name → ℕ
  -- the block of a fun
  pub fun : Name → ℕ
  -- the block of a procedure
  pub proc : Name → ℕ
  -- whether a call of this procedure leaves a result
  pub gives : Name → Bool

abbrev pub numbers : ProgramTree → Numbers
numbers p = record {
  var = λ name. var_number name (variables p);
  fun = λ name. fun_number name p.declarations;
  proc = λ name. funs p.declarations + proc_number name p.declarations;
  gives = λ name. has_result (proc_named p.declarations name);
}

-- ---- in a block

-- the locals that names in scope mean
abbrev pub Scope : Type 0
Scope = Table ℕ

-- the scope with parameters, of which the first has this number
abbrev pub with_params : Scope → ℕ → List Parameter → Scope
with_params scope n [] = scope
with_params scope n (p ∷ ps) = with_params (added scope p.name.text n) (suc n) ps

-- the scope behind a statement; the next `let` has this number
abbrev pub scope_after_form : Scope → ℕ → StatementForm → Scope
scope_after_form scope n (bind w r) = added scope w.text n
scope_after_form scope n (assign w r) = scope
scope_after_form scope n (assign_cell w index e) = scope
scope_after_form scope n (choose arms) = scope
scope_after_form scope n (choose_or arms last) = scope
scope_after_form scope n (repeat test body) = scope
scope_after_form scope n (call w args) = scope
scope_after_form scope n (return e) = scope
scope_after_form scope n (fork w args) = scope
scope_after_form scope n (join e) = scope
scope_after_form scope n (print items) = scope
scope_after_form scope n (assert e) = scope

abbrev pub scope_after : Scope → ℕ → Statement → Scope
scope_after scope n (statement at line form) = scope_after_form scope n form

-- The names of a program as tables.
use Rattle.std.specs.Prelude.{◌≢◌, Some, List, [], ◌∷◌, map}
use Rattle.rev_syntax.specs.Trees.{Declaration, fun, merge, shared, proc, ProgramTree}
use Rattle.typed_programs.specs.Least.{IsFirst}
use Rattle.name_tables.specs.Table.{Table, added}
use Rattle.typed_programs.specs.declared.fault.TypeFault.{TypeFault}
use Rattle.typed_programs.specs.declared.fault.TypeFault.TheVariants.{OutOfMemory}
use Rattle.typed_programs.specs.declared.names.Holder.{Holder}
use Rattle.rev_kinds.specs.declared.names.Callee as held
use Rattle.typed_programs.specs.Faults.{place, rank}
use Rattle.typed_programs.specs.Kinds.{Callee}
use Rattle.rev_kinds.specs.Walk.{callee}
use Rattle.typed_programs.specs.Program.{faults}
use Rattle.typed_programs.specs.Scopes.{holder}

-- the table after a declaration, if it is a shared variable
abbrev pub with_shared : Table Holder → Declaration → Table Holder
with_shared t (shared x) = added t x.name.text (holder x)
with_shared t (fun w ps r body) = t
with_shared t (merge w m j r body) = t
with_shared t (proc w ps r body) = t

-- the first shared variable of each name, after those of a table
abbrev pub shared_table : Table Holder → List Declaration → Table Holder
shared_table t [] = t
shared_table t (e ∷ es) = shared_table (with_shared t e) es

-- the table after a declaration, if it is a procedure
abbrev pub with_proc : Table Callee → Declaration → Table Callee
with_proc t (proc w ps r body) = added t w.text (record { params = ps; result = r })
with_proc t (fun w ps r body) = t
with_proc t (merge w m j r body) = t
with_proc t (shared x) = t

-- the first procedure of each name, after those of a table
abbrev pub proc_table : Table Callee → List Declaration → Table Callee
proc_table t [] = t
proc_table t (e ∷ es) = proc_table (with_proc t e) es

-- the table after a declaration, if it is a fun
abbrev pub with_fun : Table Callee → Declaration → Table Callee
with_fun t (fun w ps r body) = added t w.text (record { params = ps; result = Some r })
with_fun t (merge w m j r body) = t
with_fun t (shared x) = t
with_fun t (proc w ps r body) = t

-- the first fun of each name, after those of a table
abbrev pub fun_table : Table Callee → List Declaration → Table Callee
fun_table t [] = t
fun_table t (e ∷ es) = fun_table (with_fun t e) es

-- what a contract sees of a table of funs or procedures
abbrev pub callees : Table held.Callee → Table Callee
callees t = map (λ e. (e.0, callee e.1)) t

-- the refusal of a program: the first of all rules and limits that it breaks. Want of memory says nothing.
abbrev pub Refuses : ProgramTree → TypeFault → Type 0
Refuses p f = f ≢ OutOfMemory → IsFirst place rank (faults p) f

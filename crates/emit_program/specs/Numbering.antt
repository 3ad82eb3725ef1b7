-- The tables of numbers behind declarations: each name has the number of its first declaration.
use Rattle.std.specs.Prelude.{◌<◌, ◌+◌, ◌^◌, ℕ, is_some, List, [], ◌∷◌, ◌++◌}
use Rattle.rev_syntax.specs.Trees.{Declaration, fun, merge, shared, proc}
use Rattle.name_tables.specs.Names.{Name}
use Rattle.name_tables.specs.Table.{added}
use Rattle.emit_code.specs.declared.known.Numbered.{Numbered}
use Rattle.emit_code.specs.declared.known.NameNumbers.{NameNumbers}

-- ---- names

-- a name has the next number, if it has none; the number is spent in either case
abbrev pub entered : Numbered → Name → Numbered
entered t name = record { table = added t.table name t.next; next = t.next + 1 }

-- what is numbered and has no name to be found by
abbrev pub passed_over : Numbered → Numbered
passed_over t = record { table = t.table; next = t.next + 1 }

abbrev pub with_declaration : NameNumbers → Declaration → NameNumbers
with_declaration n (fun w ps r body) =
    record { vars = n.vars; funs = entered n.funs w.text; procs = n.procs; gives = n.gives }
with_declaration n (merge w m j r body) =
    record { vars = n.vars; funs = passed_over n.funs; procs = n.procs; gives = n.gives }
with_declaration n (shared x) =
    record { vars = entered n.vars x.name.text; funs = n.funs; procs = n.procs; gives = n.gives }
with_declaration n (proc w ps r body) = record
    { vars = n.vars; funs = n.funs; procs = entered n.procs w.text; gives = added n.gives w.text (is_some r) }

abbrev pub with_declarations : NameNumbers → List Declaration → NameNumbers
with_declarations n [] = n
with_declarations n (e ∷ es) = with_declarations (with_declaration n e) es

-- ---- counts

-- 1 for a shared variable
abbrev pub var_count : Declaration → ℕ
var_count (shared x) = 1
var_count (fun w ps r body) = 0
var_count (merge w m j r body) = 0
var_count (proc w ps r body) = 0

-- 1 for a fun or a merge
abbrev pub value_count : Declaration → ℕ
value_count (fun w ps r body) = 1
value_count (merge w m j r body) = 1
value_count (shared x) = 0
value_count (proc w ps r body) = 0

-- 1 for a procedure
abbrev pub proc_count : Declaration → ℕ
proc_count (proc w ps r body) = 1
proc_count (fun w ps r body) = 0
proc_count (merge w m j r body) = 0
proc_count (shared x) = 0

abbrev pub var_total : List Declaration → ℕ
var_total [] = 0
var_total (e ∷ es) = var_count e + var_total es

abbrev pub value_total : List Declaration → ℕ
value_total [] = 0
value_total (e ∷ es) = value_count e + value_total es

abbrev pub proc_total : List Declaration → ℕ
proc_total [] = 0
proc_total (e ∷ es) = proc_count e + proc_total es

-- so many more variables, blocks of funs and merges, and blocks of procedures can be numbered
abbrev pub HasRoom : NameNumbers → (vars values procs : ℕ) → Type 0
HasRoom n vars values procs =
    (n.vars.next + vars < 2 ^ 16) × (n.funs.next + values < 2 ^ 16) × (n.procs.next + procs < 2 ^ 16)

-- ---- merges

-- the block of a merge
abbrev pub merge_at : (block : ℕ) → Declaration → List ℕ
merge_at block (merge w m j r body) = block ∷ []
merge_at block (fun w ps r body) = []
merge_at block (shared x) = []
merge_at block (proc w ps r body) = []

-- the blocks of merges in order, where the next fun or merge has this block
abbrev pub merges_from : (block : ℕ) → List Declaration → List ℕ
merges_from block [] = []
merges_from block (e ∷ es) = merge_at block e ++ merges_from (block + value_count e) es

-- What names mean in a program, which locals are in scope, and how many cells a variable has.
--
-- `outside` and `within`: what names mean outside of funs and merges, and inside; `shared_named`,
-- `proc_named`, `fun_named`: the first declaration of a name; `with_params` and `merge_locals`: the
-- locals of a body; `locals_after`: those behind a statement; `cells_of`: the cells of a variable.
use Rattle.std.specs.Prelude.{ℕ, ℤ, pos, negsuc, true, false, if◌then◌else◌, Option, Some, None, is_some, List, [], ◌∷◌}
use Rattle.rev_num.specs.declared.value.ValueKind.TheVariants as k
use Rattle.rev_syntax.specs.Trees.{PlacedName, Parameter, ArraySize, SharedDeclaration, RightSide, Statement, statement, StatementForm, bind, Declaration, fun, shared, proc}
use Rattle.name_tables.specs.Names.{Name, same}
use Rattle.name_tables.specs.Table.{added}
use Rattle.typed_programs.specs.declared.names.Holder.{Holder}
use Rattle.typed_programs.specs.Kinds.{Callee, Names, Locals, right_side_kind}

-- ---- what names mean

abbrev pub holder : SharedDeclaration → Holder
holder x = record { kind = x.holds; array = is_some x.size }

-- the first shared variable of a name
abbrev pub shared_named : List Declaration → Name → Option Holder
shared_named [] name = None
shared_named (shared x ∷ es) name = if same name x.name.text then Some (holder x) else shared_named es name
shared_named (e ∷ es) name = shared_named es name

-- the first procedure of a name
abbrev pub proc_named : List Declaration → Name → Option Callee
proc_named [] name = None
proc_named (proc w ps r body ∷ es) name =
    if same name w.text then Some (record { params = ps; result = r }) else proc_named es name
proc_named (e ∷ es) name = proc_named es name

-- the first fun of a name
abbrev pub fun_named : List Declaration → Name → Option Callee
fun_named [] name = None
fun_named (fun w ps r body ∷ es) name =
    if same name w.text then Some (record { params = ps; result = Some r }) else fun_named es name
fun_named (e ∷ es) name = fun_named es name

-- what names mean in procedures and in `main`
abbrev pub outside : List Declaration → Names
outside es = record { shared = shared_named es; procs = proc_named es; funs = fun_named es; inside = false }

-- what names mean in funs and merges
abbrev pub within : List Declaration → Names
within es = record { shared = λ name. None; procs = proc_named es; funs = fun_named es; inside = true }

-- ---- locals

-- the locals of a body with these parameters
abbrev pub with_params : Locals → List Parameter → Locals
with_params l [] = l
with_params l (p ∷ ps) = with_params (added l p.name.text (Some p.kind)) ps

-- a parameter of a merge, which is an int
abbrev pub int_param : PlacedName → Parameter
int_param w = record { name = w; kind_at = 0; kind = k.Int }

-- the locals of a merge: its three parameters
abbrev pub merge_locals : PlacedName → PlacedName → PlacedName → Locals
merge_locals m j r = added (added (added [] m.text (Some k.Int)) j.text (Some k.Int)) r.text (Some k.Int)

-- the locals after a `let`
abbrev pub bound : Names → Locals → PlacedName → RightSide → Locals
bound c l w r = added l w.text (right_side_kind c l r)

-- the locals that are known after a statement: those before it, and the name that it binds
abbrev pub statement_form_locals : Names → Locals → StatementForm → Locals
statement_form_locals c l (bind w r) = bound c l w r
statement_form_locals c l _ = l

abbrev pub locals_after : Names → Locals → Statement → Locals
locals_after c l (statement at line form) = statement_form_locals c l form

-- ---- cells

-- the cells that a size gives; a negative size, which no text has, gives none
abbrev pub size_cells : ℤ → ℕ
size_cells (pos n) = n
size_cells (negsuc n) = 0

-- a scalar has one cell
abbrev pub cells_of : Option ArraySize → ℕ
cells_of None = 1
cells_of (Some x) = size_cells x.cells

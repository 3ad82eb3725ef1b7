-- What the tables of a setting find.
--
-- `info_of` is the row of the first shared variable of a name, and `number_of` the number of the declaration of the
-- first procedure of a name.
use Rattle.std.specs.Prelude.{ℕ, pos, ◌++◌, replicate, slice_get, Option, Some, None, option_map, if◌then◌else◌, List, [], ◌∷◌}
use Rattle.rev_num.specs.declared.value.Value.{Value}
use Rattle.rev_num.specs.declared.value.Value.TheVariants as v
use Rattle.rev_syntax.specs.Trees.{Declaration, shared, proc, Statements, no_statements, ProgramTree}
use Rattle.name_tables.specs.Names.{Name, same}
use Rattle.name_tables.specs.Table.{Table, added}
use Rattle.typed_programs.specs.Definitions.{names_of}
use Rattle.typed_programs.specs.declared.shared_info.SharedInfo.{SharedInfo}
use Rattle.typed_programs.specs.Layout.{variables, Procedure, procedures}
use Rattle.revision_calculus.specs.Program.{first_value, variable_named}

abbrev pub info_of : ProgramTree → Name → Option SharedInfo
info_of p name = option_map (λ x. x.info) (variable_named (variables p) name)

-- the number of the declaration of the first of these procedures that has this name
abbrev pub number_in : List Procedure → Name → Option ℕ
number_in [] name = None
number_in (p ∷ ps) name = if same name p.name then Some p.decl else number_in ps name

abbrev pub number_of : ProgramTree → Name → Option ℕ
number_of p name = number_in (procedures p) name

-- the parameters and the body of what was found, if it is a procedure
abbrev pub params_of : Option Declaration → List Name
params_of (Some (proc w ps r body)) = names_of ps
params_of _ = []

abbrev pub body_of : Option Declaration → Statements
body_of (Some (proc w ps r body)) = body
body_of _ = no_statements

-- these locals, and the next of these parameters with this value, if there is a next one
abbrev pub with_next : List Name → Table Value → Value → Table Value
with_next [] ls x = ls
with_next (p ∷ ps) [] x = (p, x) ∷ []
with_next (p ∷ ps) (l ∷ ls) x = l ∷ with_next ps ls x

-- the name of what was found, if it is a shared variable
abbrev pub shared_name : Option Declaration → Option Name
shared_name (Some (shared x)) = Some x.name.text
shared_name _ = None

-- the name of what was found, if it is a procedure
abbrev pub proc_name : Option Declaration → Option Name
proc_name (Some (proc w ps r body)) = Some w.text
proc_name _ = None

-- the table with this row, if it has a name that is new
abbrev pub with_row : {V : Type 0} → Option Name → Table V → V → Table V
with_row None t x = t
with_row (Some name) t x = added t name x

-- the start value of what was found, if it is a shared variable
abbrev pub start_of : Option Declaration → Value
start_of (Some (shared x)) = first_value x.holds x.first
start_of _ = v.Int (pos 0)

-- the table after these rows, each with its name
abbrev pub entered : {V : Type 0} → (V → Option Name) → Table V → List V → Table V
entered at t [] = t
entered at t (x ∷ xs) = entered at (with_row (at x) t x) xs

-- the names of rows
abbrev pub shared_at : List Declaration → SharedInfo → Option Name
shared_at ds x = shared_name (slice_get ds x.decl)

abbrev pub proc_at : List Declaration → ℕ → Option Name
proc_at ds n = proc_name (slice_get ds n)

-- the merges and the start values of locations, row by row
abbrev pub merges_in : List SharedInfo → List (Option ℕ)
merges_in [] = []
merges_in (x ∷ xs) = replicate x.cells x.merge ++ merges_in xs

abbrev pub starts_in : List Declaration → List SharedInfo → List Value
starts_in ds [] = []
starts_in ds (x ∷ xs) = replicate x.cells (start_of (slice_get ds x.decl)) ++ starts_in ds xs

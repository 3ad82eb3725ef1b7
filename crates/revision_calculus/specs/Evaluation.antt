-- The value of an expression in a local state, and assignment.
--
-- `env` is what an expression reads, `eval` and `evals` are its value and those of arguments; `set` assigns to a name,
-- `give` to a left side that waits, and `cell_location` is the location of a cell, whose index is tested.
use Rattle.std.specs.Prelude.{ℕ, ◌+◌, ℤ, pos, negsuc, nat_lt, if◌then◌else◌, List, [], ◌∷◌, Option, Some, None, Result, Ok, Err}
use Rattle.rev_num.specs.declared.value.Value.{Value}
use Rattle.rev_num.specs.declared.outcome.Cause.{Cause}
use Rattle.rev_num.specs.declared.outcome.Cause.TheVariants as cause
use Rattle.rev_syntax.specs.Trees.{Expression, Expressions}
use Rattle.name_tables.specs.Names.{Name, same}
use Rattle.name_tables.specs.Table.{Table, find}
use Rattle.typed_programs.specs.Value.{Answer, Shared, unknown, scalar, array, Env, funs_of, value_by, values_by}
use Rattle.typed_programs.specs.Definitions.{funs_in}
use Rattle.typed_programs.specs.Layout.{SharedVariable, variables}
use Rattle.revision_calculus.specs.Program.{variable_named, Setting}
use Rattle.revision_calculus.specs.State.{Location, view_at, write_at, Frame, Local}

-- ---- what an expression reads

abbrev pub top_locals : List Frame → Table Value
top_locals [] = []
top_locals (f ∷ fs) = f.locals

-- how a shared variable reads in the view
abbrev pub read_shared : Option SharedVariable → List Location → Shared
read_shared None locations = unknown
read_shared (Some x) locations =
    if x.info.array then array x.info.cells (λ i. view_at locations (x.info.base + i))
    else scalar (view_at locations x.info.base)

-- the locals of the top frame, the shared variables of the view, and the input numbers
abbrev pub env : Setting → Local → Env
env s l = record {
  local = λ name. find name (top_locals l.frames);
  shared = λ name. read_shared (variable_named (variables s.program) name) l.locations;
  inputs = s.inputs;
}

abbrev pub eval : Setting → Local → Expression → Answer
eval s l e = value_by (funs_of (funs_in s.program)) (env s l) e

-- of arguments, from left to right
abbrev pub evals : Setting → Local → Expressions → Result (List Value) Cause
evals s l es = values_by (funs_of (funs_in s.program)) (env s l) es

-- ---- assignment

-- the locals, with this value for this name
abbrev pub with_local : Table Value → Name → Value → Table Value
with_local [] name x = (name, x) ∷ []
with_local (e ∷ es) name x = if same name e.0 then (e.0, x) ∷ es else e ∷ with_local es name x

abbrev pub on_top : (Frame → Frame) → List Frame → List Frame
on_top change [] = []
on_top change (f ∷ fs) = change f ∷ fs

abbrev pub set_local : Frame → Name → Value → Frame
set_local f name x = record f { locals = with_local f.locals name x }

abbrev pub set_named : Option SharedVariable → Local → Name → Value → Local
set_named (Some y) l name x = record l { locations = write_at l.locations y.info.base x }
set_named None l name x = record l { frames = on_top (λ f. set_local f name x) l.frames }

-- The value goes to the left side of a `let` or an assignment: to the shared variable of that name,
-- or else to the local of the top frame. No local has the name of a shared variable.
abbrev pub set : Setting → Local → Name → Value → Local
set s l name x = set_named (variable_named (variables s.program) name) l name x

-- the value goes to the left side that waits for it, if there are both
abbrev pub give : Setting → Local → Option Name → Option Value → Local
give s l (Some name) (Some x) = set s l name x
give s l (Some name) None = l
give s l None x = l

-- the location of a cell, whose index is tested
abbrev pub location_in : SharedVariable → ℤ → Result ℕ Cause
location_in x (pos i) = if nat_lt i x.info.cells then Ok (x.info.base + i) else Err cause.Index
location_in x (negsuc i) = Err cause.Index

abbrev pub location_of : Option SharedVariable → ℤ → Result ℕ Cause
location_of (Some x) i = location_in x i
location_of None i = Err cause.Index

abbrev pub cell_location : Setting → Name → ℤ → Result ℕ Cause
cell_location s name i = location_of (variable_named (variables s.program) name) i

-- What the declarations of a program lay out for its runs.
--
-- A `SharedVariable` is a declared variable with its row of the checker's table, a `Procedure` a declared procedure
-- with its number. `variables` and `procedures` are the tables of a program, and `cells` (in `Limits`) is how many
-- locations it has. `LaidOut` says that the checker's tables are these.
use Rattle.std.specs.Prelude.{◌≡◌, ℕ, ◌+◌, if◌then◌else◌, Option, Some, None, is_some, option_map, option_and_then, List, [], ◌∷◌, ◌++◌, length, map}
use Rattle.rev_syntax.specs.Trees.{PlacedName, SharedDeclaration, Statements, Declaration, merge, shared, proc, ProgramTree}
use Rattle.name_tables.specs.Names.{Name, same}
use Rattle.typed_programs.specs.Definitions.{names_of}
use Rattle.typed_programs.specs.declared.shared_info.SharedInfo.{SharedInfo}
use Rattle.typed_programs.specs.Program.{infos, nothing_passed, proc_decls, locations}
use Rattle.typed_programs.specs.Scopes.{cells_of}
use Rattle.typed_programs.specs.Limits.{cells, IsWithinLimits}

-- ---- shared variables

-- A shared variable, and where it lies: the number of its declaration, its first location, how many cells it has from
-- there on, whether it is an array, and the number of its merge, counted from 0 in order of declaration, if it is
-- cumulative.
pub record SharedVariable : Type 0 where
  pub declared : SharedDeclaration
  pub info : SharedInfo

-- the number of the first merge of a name, counted among the merges
abbrev pub merge_at : Name → List Declaration → Option ℕ
merge_at name [] = None
merge_at name (merge w m j r body ∷ es) =
    if same name w.text then Some 0 else option_map (λ n. 1 + n) (merge_at name es)
merge_at name (e ∷ es) = merge_at name es

abbrev pub merge_of : List Declaration → Option PlacedName → Option ℕ
merge_of before by = option_and_then (λ w. merge_at w.text before) by

-- a variable that is declared behind these: its first location is the number of their cells, and its
-- merge is the first of the name among them
abbrev pub info_behind : List Declaration → SharedDeclaration → SharedInfo
info_behind before x = record {
  decl = length before;
  base = cells before;
  cells = cells_of x.size;
  array = is_some x.size;
  merge = merge_of before x.by;
}

abbrev pub variable_behind : List Declaration → SharedDeclaration → SharedVariable
variable_behind before x = record { declared = x; info = info_behind before x }

-- the variables of declarations that stand behind others, in order
abbrev pub variables_behind : List Declaration → List Declaration → List SharedVariable
variables_behind before [] = []
variables_behind before (shared x ∷ es) = variable_behind before x ∷ variables_behind (before ++ shared x ∷ []) es
variables_behind before (e ∷ es) = variables_behind (before ++ e ∷ []) es

abbrev pub variables : ProgramTree → List SharedVariable
variables p = variables_behind [] p.declarations

-- ---- procedures

pub record Procedure : Type 0 where
  -- the number of its declaration
  pub decl : ℕ
  pub name : Name
  pub params : List Name
  pub body : Statements

-- the procedures of declarations that are numbered from this number on
abbrev pub procedures_from : ℕ → List Declaration → List Procedure
procedures_from d [] = []
procedures_from d (proc w ps r body ∷ es) =
    record { decl = d; name = w.text; params = names_of ps; body = body } ∷ procedures_from (d + 1) es
procedures_from d (e ∷ es) = procedures_from (d + 1) es

abbrev pub procedures : ProgramTree → List Procedure
procedures p = procedures_from 0 p.declarations

-- ---- the checker's tables

-- the rows of the variables, as the checker lists them
abbrev pub shared_rows : ProgramTree → List SharedInfo
shared_rows p = map (λ x. x.info) (variables p)

-- the numbers of the declarations that are procedures
abbrev pub proc_rows : ProgramTree → List ℕ
proc_rows p = map (λ x. x.decl) (procedures p)

-- what the checker gathers of a program within the limits are its tables
pub record IsLaidOut (p : ProgramTree) : Type 0 where
  pub locations : locations p ≡ cells p.declarations
  pub variables : infos nothing_passed p.declarations ≡ shared_rows p
  pub procedures : proc_decls 0 p.declarations ≡ proc_rows p

abbrev pub LaidOut : Type 0
LaidOut = (p : ProgramTree) → IsWithinLimits p → IsLaidOut p

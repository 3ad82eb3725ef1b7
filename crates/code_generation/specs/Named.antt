-- Numbers name what they should: the blocks of funs, merges and procedures, and the places of variables.
use Rattle.std.specs.Prelude.{◌≡◌, ℕ, Some, slice_get, [], ◌∷◌}
use Rattle.rev_num.specs.declared.value.ValueKind.{ValueKind}
use Rattle.rev_syntax.specs.Trees.{PlacedName, Expression, ProgramTree}
use Rattle.name_tables.specs.Names.{Name}
use Rattle.typed_programs.specs.Definitions.{names_of, MergeDef, merges_in}
use Rattle.typed_programs.specs.Kinds.{Callee}
use Rattle.typed_programs.specs.Layout.{SharedVariable, variables, procedures}
use Rattle.typed_programs.specs.Scopes.{outside, fun_named, proc_named}
use Rattle.revision_calculus.specs.Program.{variable_named, procedure_named}
use Rattle.rev_code.specs.Variables.{place_from}
use Rattle.code_generation.specs.Numbers.{numbers, merge_number}
use Rattle.code_generation.specs.Generated.{var_of, fun_block, merge_block, proc_block, code_of}

-- the first fun of a name
pub record FunStands (p : ProgramTree) (name : Name) (f : Callee) : Type 0 where
  pub result : ValueKind
  pub body : Expression
  pub gives : f.result ≡ Some result
  pub stands : slice_get (code_of p).blocks ((numbers p).fun name) ≡ Some (fun_block (numbers p) f.params result body)

abbrev pub FunsStand : Type 0
FunsStand = (p : ProgramTree) (name : Name) (f : Callee) → fun_named p.declarations name ≡ Some f → FunStands p name f

-- the first procedure of a name, with the body that the calculus finds
pub record ProcStands (p : ProgramTree) (name : Name) (f : Callee) : Type 0 where
  pub layout : ℕ
  pub params : (procedure_named (procedures p) name).params ≡ names_of f.params
  pub stands : slice_get (code_of p).blocks ((numbers p).proc name)
      ≡ Some (proc_block (numbers p) (outside p.declarations) f.params f.result
      (procedure_named (procedures p) name).body layout)

abbrev pub ProcsStand : Type 0
ProcsStand = (p : ProgramTree) (name : Name) (f : Callee) → proc_named p.declarations name ≡ Some f
    → ProcStands p name f

-- a merge, by how many are declared before it
pub record MergeStands (p : ProgramTree) (k : ℕ) (d : MergeDef) : Type 0 where
  pub m : PlacedName
  pub j : PlacedName
  pub root : PlacedName
  pub params : d.params ≡ m.text ∷ j.text ∷ root.text ∷ []
  pub stands : slice_get (code_of p).blocks (merge_number k p.declarations)
      ≡ Some (merge_block (numbers p) m j root d.body)

abbrev pub MergesStand : Type 0
MergesStand = (p : ProgramTree) (k : ℕ) (d : MergeDef) → slice_get (merges_in p) k ≡ Some d → MergeStands p k d

-- the first variable of a name lies in the code where it lies in the program
abbrev pub VariablesLie : Type 0
VariablesLie =
    (p : ProgramTree) (name : Name) (x : SharedVariable) → variable_named (variables p) name ≡ Some x
    → place_from 0 (code_of p).vars ((numbers p).var name)
    ≡ Some (record { var = var_of p.declarations x; first = x.info.base })

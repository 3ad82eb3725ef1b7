-- The funs and the merges that a program declares.
use Rattle.std.specs.Prelude.{ℕ, List, [], ◌∷◌, map, Option, Some, None, slice_get}
use Rattle.rev_num.specs.declared.value.Value.{Value}
use Rattle.rev_syntax.specs.Trees.{PlacedName, Expression, Parameter, Declaration, fun, merge, ProgramTree}
use Rattle.name_tables.specs.Names.{Name}
use Rattle.typed_programs.specs.Value.{Answer, FunDef, funs_of, inside, value_by, some_value}

abbrev pub names_of : List Parameter → List Name
names_of bs = map (λ b. b.name.text) bs

abbrev pub fun_def : PlacedName → List Parameter → Expression → FunDef
fun_def name params body = record { name = name.text; params = names_of params; body = body }

-- these funs and those of the declarations, from the last declared to the first
abbrev pub funs_after : List FunDef → List Declaration → List FunDef
funs_after fs [] = fs
funs_after fs (fun name params result body ∷ es) = funs_after (fun_def name params body ∷ fs) es
funs_after fs (e ∷ es) = funs_after fs es

-- the funs that an expression outside of funs and merges may apply
abbrev pub funs_in : ProgramTree → List FunDef
funs_in p = funs_after [] p.declarations

-- a merge: its name, the names of the joiner's, the joinee's and the root's value, the value, and
-- the funs that it may apply, which are those declared before it
pub record MergeDef : Type 0 where
  pub name : Name
  pub params : List Name
  pub body : Expression
  pub funs : List FunDef

abbrev pub merge_def
    : List FunDef → PlacedName → PlacedName → PlacedName → PlacedName → Expression → MergeDef
merge_def fs name m j r body =
    record { name = name.text; params = m.text ∷ j.text ∷ r.text ∷ []; body = body; funs = fs }

-- the merges of the declarations in order, where these funs are declared before
abbrev pub merges_after : List FunDef → List Declaration → List MergeDef
merges_after fs [] = []
merges_after fs (fun name params result body ∷ es) = merges_after (fun_def name params body ∷ fs) es
merges_after fs (merge name m j r body ∷ es) = merge_def fs name m j r body ∷ merges_after fs es
merges_after fs (e ∷ es) = merges_after fs es

abbrev pub merges_in : ProgramTree → List MergeDef
merges_in p = merges_after [] p.declarations

-- a merge of the joiner's, the joinee's and the root's value
abbrev pub merged : MergeDef → Value → Value → Value → Answer
merged d m j r = value_by (funs_of d.funs) (inside d.params (m ∷ j ∷ r ∷ [])) d.body

abbrev pub merged_by : Option MergeDef → Value → Value → Value → Answer
merged_by (Some d) m j r = merged d m j r
merged_by None m j r = some_value

-- the merge of this number, counted from 0 in order of declaration
unfoldable pub merge_value_of : ProgramTree → ℕ → Value → Value → Value → Answer
merge_value_of p k m j r = merged_by (slice_get (merges_in p) k) m j r

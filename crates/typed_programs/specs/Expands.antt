-- What the numbering of the applications of a program answers.
use Rattle.std.specs.Prelude.{◌≢◌, ℕ, List, map, Option}
use Rattle.rev_syntax.specs.Trees.{ProgramTree}
use Rattle.typed_programs.specs.FunRules.{Use, broken_in, fun_faults, place, rank}
use Rattle.typed_programs.specs.Least.{IsFirst}
use Rattle.name_tables.specs.Names.{Name}
use Rattle.typed_programs.specs.declared.expanded.FunHead.{FunHead}
use Rattle.typed_programs.specs.declared.expanded.FunDef.{FunDef}
use Rattle.typed_programs.specs.declared.expanded.MergeRef.{MergeRef}
use Rattle.typed_programs.specs.declared.fun_fault.MergeFault.{MergeFault}
use Rattle.typed_programs.specs.declared.fun_fault.MergeFault.TheVariants.{OutOfMemory}

abbrev pub decls_of_funs : List FunDef → List ℕ
decls_of_funs fs = map (λ f. f.decl) fs

abbrev pub decls_of_merges : List MergeRef → List ℕ
decls_of_merges ms = map (λ m. m.decl) ms

-- the refusal of a program: the first rule on funs that it breaks. Want of memory says nothing.
abbrev pub Refuses : ProgramTree → MergeFault → Type 0
Refuses p f = f ≢ OutOfMemory → IsFirst place rank (fun_faults p) f

-- where names mean these funs: the first rule that the applications break. Want of memory says
-- nothing.
abbrev pub IsFirstBroken : (Name → Option FunHead) → List Use → MergeFault → Type 0
IsFirstBroken named us f = f ≢ OutOfMemory → IsFirst place rank (broken_in named us) f

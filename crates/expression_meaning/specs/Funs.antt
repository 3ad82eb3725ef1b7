-- The blocks of a program's code have the values of its funs and merges.
use Rattle.std.specs.Prelude.{◌≡◌, ℕ, ℤ, List, [], ◌∷◌, Some, slice_get}
use Rattle.rev_num.specs.Path.{Path}
use Rattle.rev_num.specs.declared.value.Value.TheVariants as v
use Rattle.rev_syntax.specs.Trees.{ProgramTree}
use Rattle.name_tables.specs.Names.{Name}
use Rattle.typed_programs.specs.Definitions.{funs_in, MergeDef, merges_in, merged}
use Rattle.typed_programs.specs.Value.{funs_of}
use Rattle.typed_programs.specs.Kinds.{Callee}
use Rattle.typed_programs.specs.Scopes.{fun_named}
use Rattle.revision_calculus.specs.Kinded.{IsAccepted}
use Rattle.rev_code.specs.Words.{int}
use Rattle.rev_code.specs.Step.{value_at}
use Rattle.rev_code.specs.Funs.{setting, values}
use Rattle.code_generation.specs.Numbers.{numbers, merge_number}
use Rattle.code_generation.specs.Generated.{code_of}
use Rattle.expression_meaning.specs.Agrees.{coded, FunReads}

abbrev pub ProgramFuns : Type 0
ProgramFuns =
    (p : ProgramTree) → IsAccepted p → (inputs : List ℤ) (share : ℕ) (name : Name) (f : Callee)
    → fun_named p.declarations name ≡ Some f
    → FunReads (setting (code_of p) inputs share) ((numbers p).fun name) f (funs_of (funs_in p) name)

-- for all three numbers
abbrev pub ProgramMerges : Type 0
ProgramMerges =
    (p : ProgramTree) → IsAccepted p → (k : ℕ) (d : MergeDef) → slice_get (merges_in p) k ≡ Some d → (x y z : ℤ)
    → value_at (slice_get (values {H = Path} (code_of p)) (merge_number k p.declarations)) (int x ∷ int y ∷ int z ∷ [])
    ≡ Some (coded (merged d (v.Int x) (v.Int y) (v.Int z)))

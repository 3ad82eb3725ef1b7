-- The merges of generated code, for every kind of handle.
--   number_word       the word of a number, or its fault
--   IsMergedBy        a location merges by this merge of the program: a declared one, whose value
--                     for all three numbers is what the code's merge gives for their words
--   CodeHasTheMerges  each cumulative location of generated code merges by its declared merge
use Rattle.std.specs.Prelude.{◌≡◌, ℕ, ℤ, Some, Result, Ok, Err, slice_get}
use Rattle.rev_num.specs.declared.value.Value.TheVariants as v
use Rattle.rev_num.specs.declared.value.NumFault.{NumFault}
use Rattle.rev_syntax.specs.Trees.{ProgramTree}
use Rattle.typed_programs.specs.Definitions.{MergeDef, merges_in, merged}
use Rattle.typed_programs.specs.Evaluation.{merge_answer}
use Rattle.typed_programs.specs.Layout.{variables}
use Rattle.revision_calculus.specs.Join.{merges_of}
use Rattle.revision_calculus.specs.Kinded.{IsAccepted}
use Rattle.rev_code.specs.Words.{Word, int}
use Rattle.code_generation.specs.Generated.{code_of}
use Rattle.code_machine.specs.Local.{CodeRun}
use Rattle.code_machine.specs.Joining.{merges}

abbrev pub number_word : {H : Type 0} → Result ℤ NumFault → Result (Word H) NumFault
number_word (Ok z) = Ok (int z)
number_word (Err f) = Err f

-- location l of the code, and merge k of the program
pub record IsMergedBy (H : Type 0) (p : ProgramTree) (g : CodeRun) (l k : ℕ) : Type 0 where
  pub declared : MergeDef
  pub is : slice_get (merges_in p) k ≡ Some declared
  pub value : (main join root : ℤ)
      → merges {H = H} g l (int main) (int join) (int root)
      ≡ number_word (merge_answer (merged declared (v.Int main) (v.Int join) (v.Int root)))

abbrev pub CodeHasTheMerges : Type 0 → Type 0
CodeHasTheMerges H =
    (p : ProgramTree) → IsAccepted p → (g : CodeRun) → g.code ≡ code_of p
    → (l k : ℕ) → slice_get (merges_of (variables p)) l ≡ Some (Some k) → IsMergedBy H p g l k

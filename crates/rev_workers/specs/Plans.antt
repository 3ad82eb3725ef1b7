-- Plans of kernels for code.
--   IsValueOf     the merge block of this number gives this definition's value for all three numbers
--   IsPlanFor     one choice for each location; where a definition was chosen there is a merge
--                 block, which gives its value
--   planned       the merges of code, of which those with a choice are made by kernels
use Rattle.std.specs.Prelude.{◌≡◌, ℕ, ℤ, true, List, length, Option, Some, Result, Ok, Err, slice_get}
use Rattle.rev_num.specs.declared.value.NumFault.{NumFault}
use Rattle.rev_num.specs.Arith.{fits_i64}
use Rattle.rev_syntax.specs.Trees.{Expression}
use Rattle.rev_code.specs.declared.code.Code.{Code}
use Rattle.rev_code.specs.Words.{Word, int}
use Rattle.rev_code.specs.Funs.{values}
use Rattle.version_map.specs.Composing.{Merges}
use Rattle.block_run.specs.Area.{count}
use Rattle.code_machine.specs.Joining.{merges_of, merged_by}
use Rattle.fun_run.specs.Merging.{word_merges}
use Rattle.merge_kernels.specs.Terms.{answer_of}
use Rattle.merge_kernels.specs.Plans.{chosen_at}
use Rattle.merge_kernels.specs.Words.{overlaid}

abbrev pub number_word : Result ℤ NumFault → Result (Word ℕ) NumFault
number_word (Ok z) = Ok (int z)
number_word (Err f) = Err f

abbrev pub IsValueOf : Code → ℕ → Expression → Type 0
IsValueOf code n e =
    (main join root : ℤ) → fits_i64 main ≡ true → fits_i64 join ≡ true → fits_i64 root ≡ true
    → merged_by (values {H = ℕ} code) (Some n) (int main) (int join) (int root)
    ≡ number_word (answer_of e main join root)

abbrev pub IsPlanFor : Code → List (Option ℕ) → List Expression → Type 0
IsPlanFor code choices kernels =
    (length choices ≡ count code.vars)
    × ((location : ℕ) (e : Expression) → chosen_at choices kernels location ≡ Some e
    → (n : ℕ) × (slice_get (merges_of code.vars) location ≡ Some (Some n)) × IsValueOf code n e)

abbrev pub planned : Code → List (Option ℕ) → List Expression → Merges ℕ
planned code choices kernels = overlaid choices kernels (word_merges code)

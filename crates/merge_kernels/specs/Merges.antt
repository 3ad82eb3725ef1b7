-- The term of a program's merge.
--   term_in          that of a declaration
--   term_of          that of the merge of this number
--   HasMergesValue   it has the value of the merge for all numbers
use Rattle.std.specs.Prelude.{◌≡◌, ℕ, ℤ, List, [], ◌∷◌, Option, Some, None, slice_get, option_and_then}
use Rattle.rev_num.specs.declared.value.Value.TheVariants as v
use Rattle.rev_syntax.specs.Trees.{Expression, Declaration, fun, merge, shared, proc, ProgramTree}
use Rattle.name_tables.specs.Names.{Name}
use Rattle.typed_programs.specs.Definitions.{MergeDef, merges_in, merge_value_of}
use Rattle.typed_programs.specs.Evaluation.{merge_answer}
use Rattle.merge_kernels.specs.Terms.{answer_of}
use Rattle.merge_kernels.specs.Closing.{renamed}

abbrev pub term_over : List Name → Expression → Option Expression
term_over (m ∷ j ∷ r ∷ []) e = renamed (record { main = m; join = j; root = r }) e
term_over [] e = None
term_over (m ∷ []) e = None
term_over (m ∷ j ∷ []) e = None
term_over (m ∷ j ∷ r ∷ x ∷ xs) e = None

abbrev pub term_by : MergeDef → Option Expression
term_by d = term_over d.params d.body

abbrev pub term_in : Declaration → Option Expression
term_in (merge w m j r body) = renamed (record { main = m.text; join = j.text; root = r.text }) body
term_in (fun w params result body) = None
term_in (shared x) = None
term_in (proc w params result body) = None

abbrev pub term_of : ProgramTree → ℕ → Option Expression
term_of p k = option_and_then term_by (slice_get (merges_in p) k)

abbrev pub HasMergesValue : Type 0
HasMergesValue =
    (p : ProgramTree) (k : ℕ) (e : Expression) → term_of p k ≡ Some e → (main join root : ℤ)
    → answer_of e main join root ≡ merge_answer (merge_value_of p k (v.Int main) (v.Int join) (v.Int root))

-- The merges of generated code are those of its program, whatever handles are. With no handles at all a merge block
-- gives what it gives with paths, and with others what it gives with none.
use Rattle.std.proofs.Common.{◌≡◌, ◌∙◌, ℕ, zero, suc, ℤ, List, [], ◌∷◌, Option, Some, None, refl, sym, ap, subst}
use Rattle.std.specs.Prelude.{slice_get, Result, Ok, Err}
use Rattle.rev_num.specs.Path.{Path}
use Rattle.rev_num.specs.declared.value.Value.{Value}
use Rattle.rev_num.specs.declared.value.Value.TheVariants as v
use Rattle.rev_num.specs.declared.value.NumFault.{NumFault}
use Rattle.rev_num.specs.declared.value.NumFault.TheVariants as fault
use Rattle.rev_num.specs.declared.outcome.Cause.{Cause}
use Rattle.rev_syntax.specs.Trees.{ProgramTree}
use Rattle.typed_programs.specs.Definitions.{MergeDef, merges_in, merged, merge_value_of}
use Rattle.typed_programs.specs.Definitions as definition
use Rattle.typed_programs.specs.Evaluation.{merge_answer}
use Rattle.typed_programs.specs.Layout.{variables}
use Rattle.typed_programs.specs.Scopes.{outside, within}
use Rattle.typed_programs.proofs.DeclsSound.{program_typed}
use Rattle.revision_calculus.specs.Join.{merges_of, number_value}
use Rattle.revision_calculus.specs.Kinded.{IsAccepted, IsNumberOrFault}
use Rattle.revision_calculus.proofs.MergeCauses.{merge_law}
use Rattle.rev_code.specs.Words.{Word, int, bool, rev}
use Rattle.rev_code.specs.Step.{value_at}
use Rattle.rev_code.specs.Funs.{values}
use Rattle.code_generation.specs.Numbers.{merge_number}
use Rattle.code_generation.specs.Generated.{code_of}
use Rattle.code_machine.specs.Local.{CodeRun}
use Rattle.code_machine.specs.Joining.{fault_of, word_or_fault, merged_there}
use Rattle.code_machine.specs.Joining as joining
use Rattle.code_machine.proofs.Renaming.{renamed_answer, values_same}
use Rattle.expression_meaning.proofs.Funs.{program_merges}
use Rattle.program_meaning.specs.Merges.{number_word, IsMergedBy, CodeHasTheMerges}
use Rattle.program_meaning.proofs.Merging.{answer_alike, coded_merge, coded_value, laid_from, IsDeclared, AllDeclared, get_map}

none : {H : Type 0} → ⊥ → H
none e = absurd e

-- what a merge block gives with no handles
abbrev Bare : Type 0
Bare = Option (Result (Word ⊥) Cause)

-- a number or a fault that is given with handles of one kind is given with those of another
given : {H K : Type 0} (a : Bare) (x : Result ℤ NumFault)
    → word_or_fault (renamed_answer (none {H = H}) a) ≡ number_word x
    → word_or_fault (renamed_answer (none {H = K}) a) ≡ number_word x
given (Some (Ok (int n))) (Ok z) e = let same : n ≡ z = cc in ap (λ i. Ok (int i)) same
given (Some (Ok (int n))) (Err f) e = absurd (cc)
given (Some (Ok (bool b))) (Ok z) e = absurd (cc)
given (Some (Ok (bool b))) (Err f) e = absurd (cc)
given (Some (Ok (rev None))) (Ok z) e = absurd (cc)
given (Some (Ok (rev None))) (Err f) e = absurd (cc)
given (Some (Ok (rev (Some h)))) x e = absurd h
given (Some (Err c)) (Ok z) e = absurd (cc)
given (Some (Err c)) (Err f) e = let same : fault_of c ≡ f = cc in ap (λ i. Err i) same
given None (Ok z) e = absurd (cc)
given None (Err f) e = let same : fault.Overflow ≡ f = cc in ap (λ i. Err i) same

coded_number : (x : Result ℤ NumFault) → coded_value (number_value x) ≡ number_word x
coded_number (Ok z) = refl
coded_number (Err f) = refl

module _ (p : ProgramTree) (well : IsAccepted p) where
  abbrev block_gives : (H : Type 0) → ℕ → (x y z : ℤ) → Option (Result (Word H) Cause)
  block_gives H k x y z =
      value_at (slice_get (values {H = H} (code_of p)) (merge_number k p.declarations)) (int x ∷ int y ∷ int z ∷ [])

  the_value : (k : ℕ) (d : MergeDef) → slice_get (merges_in p) k ≡ Some d → (x y z : Value)
      → merge_value_of p k x y z ≡ merged d x y z
  unfolding merge_value_of
  the_value k d is x y z = ap (λ o. definition.merged_by o x y z) is

  with_paths : (k : ℕ) (d : MergeDef) → slice_get (merges_in p) k ≡ Some d → (x y z : ℤ)
      → word_or_fault (block_gives Path k x y z) ≡ number_word (merge_answer (merged d (v.Int x) (v.Int y) (v.Int z)))
  with_paths k d is x y z =
      let fine =
      subst IsNumberOrFault (the_value k d is (v.Int x) (v.Int y) (v.Int z))
      (merge_law p well k (v.Int x) (v.Int y) (v.Int z) refl refl refl) in
      ap word_or_fault (program_merges p well k d is x y z) ∙ answer_alike (merged d (v.Int x) (v.Int y) (v.Int z)) fine
      ∙ coded_number (merge_answer (merged d (v.Int x) (v.Int y) (v.Int z)))

  with_any : (H : Type 0) (k : ℕ) (d : MergeDef) → slice_get (merges_in p) k ≡ Some d → (x y z : ℤ)
      → word_or_fault (block_gives H k x y z) ≡ number_word (merge_answer (merged d (v.Int x) (v.Int y) (v.Int z)))
  with_any H k d is x y z =
      let bare = block_gives ⊥ k x y z in
      let paths =
      values_same (none {H = Path}) (code_of p) (merge_number k p.declarations) (int x ∷ int y ∷ int z ∷ []) in
      let any = values_same (none {H = H}) (code_of p) (merge_number k p.declarations) (int x ∷ int y ∷ int z ∷ []) in
      ap word_or_fault any
      ∙ given {H = Path} {K = H} bare (merge_answer (merged d (v.Int x) (v.Int y) (v.Int z)))
      (ap word_or_fault (sym paths) ∙ with_paths k d is x y z)

  all_declared : (os : List (Option ℕ)) (l : ℕ) (o : Option ℕ) → AllDeclared p os → slice_get os l ≡ Some o
      → IsDeclared p o
  all_declared [] l o ds e = absurd (let z : None ≡ Some o = e in cc)
  all_declared (x ∷ os) zero o ds e =
      (let z : Some x ≡ Some o = e in let same : x ≡ o = cc in subst (IsDeclared p) same ds.0)
  all_declared (x ∷ os) (suc l) o ds e = all_declared os l o ds.1 e

  laid : Rattle.program_meaning.proofs.Merging.AreLaid p [] p.declarations
  laid = laid_from p (outside p.declarations) (within p.declarations) [] [] p.declarations
      (program_typed p well.small well.funs well.rules).declarations (λ e i. absurd i) refl

  pub by_location : (H : Type 0) (g : CodeRun) → g.code ≡ code_of p → (l k : ℕ)
      → slice_get (merges_of (variables p)) l ≡ Some (Some k) → IsMergedBy H p g l k
  by_location H g run l k at =
      let d = all_declared (merges_of (variables p)) l (Some k) laid.declared at in
      let there : slice_get (joining.merges_of (code_of p).vars) l ≡ Some (Some (merge_number k p.declarations)) =
      ap (λ xs. slice_get xs l) laid.same
      ∙ get_map (coded_merge p.declarations) (merges_of (variables p)) l (Some k) at in
      record {
        declared = d.0;
        is = d.1;
        value = λ x y z.
            ap (λ c. merged_there (values {H = H} c) (slice_get (joining.merges_of c.vars) l) (int x) (int y) (int z))
            run
            ∙ ap (λ o. merged_there (values {H = H} (code_of p)) o (int x) (int y) (int z)) there
            ∙ with_any H k d.0 d.1 x y z;
      }

pub code_has_the_merges : {H : Type 0} → CodeHasTheMerges H
code_has_the_merges {H = H} p well g run l k at = by_location p well H g run l k at

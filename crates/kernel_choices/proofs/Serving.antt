-- Kernels that are chosen by the definitions of a program's merges make a plan for its code.
use Rattle.std.proofs.Common.{◌≡◌, ◌∙◌, ◌<◌, ap, sym, refl, subst, ℕ, zero, suc, ◌+◌, List, [], ◌∷◌, ◌++◌, length, replicate, slice_get, Option, Some, None, option_and_then, Ok, Err}
use Rattle.std.proofs.lemmas.List.{length-map}
use Rattle.rev_num.specs.Path.{Path}
use Rattle.rev_num.specs.declared.value.Value.TheVariants as v
use Rattle.rev_num.specs.declared.value.ValueKind.TheVariants as k
use Rattle.rev_num.specs.declared.outcome.Cause.TheVariants as cause
use Rattle.rev_syntax.specs.Trees.{Expression, ProgramTree}
use Rattle.typed_programs.specs.Definitions.{MergeDef, merges_in, merged, merge_value_of}
use Rattle.typed_programs.specs.Evaluation.{merge_answer}
use Rattle.typed_programs.specs.Value.{Answer}
use Rattle.typed_programs.specs.Layout.{variables}
use Rattle.typed_programs.specs.Scopes.{outside, within}
use Rattle.revision_calculus.specs.Join.{merges_of}
use Rattle.revision_calculus.specs.Kinded.{IsAccepted, IsNumberOrFault}
use Rattle.revision_calculus.proofs.FunKinds.{rules_kept}
use Rattle.revision_calculus.proofs.MergeCauses.{merge_law}
use Rattle.rev_code.specs.Words.{int}
use Rattle.rev_code.specs.Funs.{values}
use Rattle.code_generation.specs.Generated.{code_of}
use Rattle.code_generation.specs.Numbers.{merge_number}
use Rattle.expression_meaning.specs.Agrees.{coded}
use Rattle.expression_meaning.proofs.Funs.{program_merges}
use Rattle.program_meaning.proofs.Merging.{AreLaid, coded_merge, get_map, laid_from}
use Rattle.code_machine.specs.Joining.{merged_by, word_or_fault}
use Rattle.code_machine.specs.Joining as joining
use Rattle.code_machine.proofs.Renaming.{renamed_answer, values_same}
use Rattle.fun_run.proofs.Blocks.{merges_many}
use Rattle.merge_kernels.specs.Terms.{answer_of}
use Rattle.merge_kernels.specs.Merges.{term_of}
use Rattle.merge_kernels.specs.Plans.{the_choice, choice_at}
use Rattle.merge_kernels.proofs.MergeTerms.{has_value, none_some}
use Rattle.rev_workers.specs.Plans.{IsValueOf, number_word}
use Rattle.kernel_choices.specs.Choices.{IsPlaceOf, IsChoice, AreChoices, ChoicesServe}

-- ---- one merge

no_handle : Path → ℕ
no_handle p = 0

answer_word : (a : Answer) → IsNumberOrFault a
    → word_or_fault (renamed_answer no_handle (Some (coded a))) ≡ number_word (merge_answer a)
answer_word (Ok (v.Int z)) is = refl
answer_word (Ok (v.Bool z)) is = absurd (let q : k.Bool ≡ k.Int = is in cc)
answer_word (Ok (v.Rev z)) is = absurd (let q : k.Rev ≡ k.Int = is in cc)
answer_word (Err cause.Overflow) is = refl
answer_word (Err cause.ZeroDivisor) is = refl
answer_word (Err cause.Index) is = absurd is
answer_word (Err cause.Assert) is = absurd is
answer_word (Err cause.JoinNone) is = absurd is
answer_word (Err cause.CallDepth) is = absurd is
answer_word (Err cause.Spent) is = absurd is
answer_word (Err (cause.Merge n f)) is = absurd is

module _ (p : ProgramTree) (well : IsAccepted p) where
  -- the block of a merge has the value of its definition
  value_is : (n : ℕ) (e : Expression) → term_of p n ≡ Some e → IsValueOf (code_of p) (merge_number n p.declarations) e
  unfolding merge_value_of
  value_is n e is x y z fx fy fz = by (slice_get (merges_in p) n) refl
    where
      by : (o : Option MergeDef) → slice_get (merges_in p) n ≡ o
          → merged_by (values {H = ℕ} (code_of p)) (Some (merge_number n p.declarations)) (int x) (int y) (int z)
          ≡ number_word (answer_of e x y z)
      by None at = absurd (none_some (sym (ap (option_and_then _) at) ∙ is))
      by (Some d) at =
          let fine : IsNumberOrFault (merge_value_of p n (v.Int x) (v.Int y) (v.Int z)) =
          merge_law p well n (v.Int x) (v.Int y) (v.Int z) refl refl refl in
          let here : merge_value_of p n (v.Int x) (v.Int y) (v.Int z) ≡ merged d (v.Int x) (v.Int y) (v.Int z) =
          ap (λ o. Rattle.typed_programs.specs.Definitions.merged_by o (v.Int x) (v.Int y) (v.Int z)) at in
          ap word_or_fault
          (values_same no_handle (code_of p) (merge_number n p.declarations) (int x ∷ int y ∷ int z ∷ []))
          ∙ ap (λ a. word_or_fault (renamed_answer no_handle a)) (program_merges p well n d at x y z)
          ∙ answer_word (merged d (v.Int x) (v.Int y) (v.Int z)) (subst IsNumberOrFault here fine)
          ∙ ap (λ a. number_word (merge_answer a)) (sym here)
          ∙ ap number_word (sym (has_value p n e is x y z))

-- ---- one location

-- a choice that was made has a definition, which is that of the merge
record IsMade (p : ProgramTree) (kernels : List Expression) (os : List (Option ℕ)) (l : ℕ)
    (e : Expression) : Type 0 where
  merge : ℕ
  there : slice_get os l ≡ Some (Some merge)
  term : term_of p merge ≡ Some e

made_by : (p : ProgramTree) (kernels : List Expression) (n : ℕ) (e : Expression) → slice_get kernels n ≡ Some e
    → (o : Option ℕ) → IsChoice p kernels o (Some n)
    → (m : ℕ) × (o ≡ Some m) × (term_of p m ≡ Some e)
made_by p kernels n e at None is = absurd (none_some (sym is))
made_by p kernels n e at (Some m) is = (m, refl, by (term_of p m) is)
  where
    by : (t : Option Expression) → IsPlaceOf t kernels (Some n) → t ≡ Some e
    by None is = absurd (none_some (sym is))
    by (Some d) is = sym is.0 ∙ at

made : (p : ProgramTree) (kernels : List Expression) (os cs : List (Option ℕ)) → AreChoices p kernels os cs
    → (l n : ℕ) (e : Expression) → the_choice (slice_get cs l) ≡ Some n
    → slice_get kernels n ≡ Some e → IsMade p kernels os l e
made p kernels [] [] are l n e is at = absurd (none_some is)
made p kernels (o ∷ os) (c ∷ cs) are zero n e is at =
    let m = made_by p kernels n e at o (subst (IsChoice p kernels o) is are.0) in
    record { merge = m.0; there = ap Some m.1; term = m.2 }
made p kernels (o ∷ os) (c ∷ cs) are (suc l) n e is at =
    let m = made p kernels os cs are.1 l n e is at in record { merge = m.merge; there = m.there; term = m.term }
made p kernels [] (c ∷ cs) are l n e is at = absurd are
made p kernels (o ∷ os) [] are l n e is at = absurd are

as_many : (p : ProgramTree) (kernels : List Expression) (os cs : List (Option ℕ)) → AreChoices p kernels os cs
    → length cs ≡ length os
as_many p kernels [] [] are = refl
as_many p kernels (o ∷ os) (c ∷ cs) are = ap suc (as_many p kernels os cs are.1)
as_many p kernels [] (c ∷ cs) are = absurd are
as_many p kernels (o ∷ os) [] are = absurd are

-- what is chosen by a place
place : (kernels : List Expression) (o : Option ℕ) (e : Expression) → option_and_then (slice_get kernels) o ≡ Some e
    → (n : ℕ) × (o ≡ Some n) × (slice_get kernels n ≡ Some e)
place kernels None e is = absurd (none_some is)
place kernels (Some n) e is = (n, refl, is)

pub choices_serve : ChoicesServe
choices_serve p kernels cs well are =
    let os = merges_of (variables p) in
    let laid : AreLaid p [] p.declarations =
    laid_from p (outside p.declarations) (within p.declarations) [] [] p.declarations (rules_kept p well).declarations
    (λ e h. h) refl in
    let many = as_many p kernels os cs are in
    let same = ap length laid.same ∙ length-map os (coded_merge p.declarations) in
    let blocks = merges_many (code_of p).vars in (
      many ∙ sym same ∙ blocks,
      λ l e is.
          let c = place kernels (choice_at cs l) e is in
          let m = made p kernels os cs are l c.0 e c.1 c.2 in (
            merge_number m.merge p.declarations,
            ap (λ xs. slice_get xs l) laid.same ∙ get_map (coded_merge p.declarations) os l (Some m.merge) m.there,
            value_is p well m.merge e m.term,
          ),
    )

-- ---- lists of choices

pub more_choices : (p : ProgramTree) (kernels : List Expression) (os cs ps ds : List (Option ℕ))
    → AreChoices p kernels os cs → AreChoices p kernels ps ds → AreChoices p kernels (os ++ ps) (cs ++ ds)
more_choices p kernels [] [] ps ds are others = others
more_choices p kernels (o ∷ os) (c ∷ cs) ps ds are others = (are.0, more_choices p kernels os cs ps ds are.1 others)
more_choices p kernels [] (c ∷ cs) ps ds are others = absurd are
more_choices p kernels (o ∷ os) [] ps ds are others = absurd are

pub same_choices : (p : ProgramTree) (kernels : List Expression) (n : ℕ) (o c : Option ℕ) → IsChoice p kernels o c
    → AreChoices p kernels (replicate n o) (replicate n c)
same_choices p kernels zero o c is = tt
same_choices p kernels (suc n) o c is = (is, same_choices p kernels n o c is)

-- each is a place of the kernels
place_within : (p : ProgramTree) (kernels : List Expression) (o : Option ℕ) (n : ℕ) → IsChoice p kernels o (Some n)
    → n < length kernels
place_within p kernels None n is = absurd (none_some (sym is))
place_within p kernels (Some m) n is = by (term_of p m) is
  where
    by : (t : Option Expression) → IsPlaceOf t kernels (Some n) → n < length kernels
    by None is = absurd (none_some (sym is))
    by (Some d) is = Rattle.std.proofs.lemmas.Option.slice_get_within kernels n d is.0

pub choices_within : (p : ProgramTree) (kernels : List Expression) (os cs : List (Option ℕ))
    → AreChoices p kernels os cs → (l n : ℕ) → choice_at cs l ≡ Some n → n < length kernels
choices_within p kernels [] [] are l n is = absurd (none_some is)
choices_within p kernels (o ∷ os) (c ∷ cs) are zero n is =
    place_within p kernels o n (subst (IsChoice p kernels o) is are.0)
choices_within p kernels (o ∷ os) (c ∷ cs) are (suc l) n is = choices_within p kernels os cs are.1 l n is
choices_within p kernels [] (c ∷ cs) are l n is = absurd are
choices_within p kernels (o ∷ os) [] are l n is = absurd are

-- The variables of a program, by the rows of the checker's table.
use Rattle.std.proofs.Common.{◌≡◌, ◌∙◌, ◌+◌, Some, List, [], ◌∷◌, ◌++◌, length, map, refl, ap, sym, append_assoc, arith}
use Rattle.std.specs.Prelude.{slice_get}
use Rattle.rev_syntax.specs.Trees.{SharedDeclaration, Declaration, fun, merge, shared, proc}
use Rattle.typed_programs.specs.Limits.{funs}
use Rattle.typed_programs.specs.Layout.{variable_behind, variables_behind, merge_of}
use Rattle.code_generation.specs.Generated.{var_of}
use Rattle.code_generation.proofs.Naming.{get_right}
use Rattle.emit_program.specs.Numbering.{merges_from}
use Rattle.emit_program.specs.Variables.{var_in, vars_in}
use Rattle.emit_program.proofs.Merges.{entry_is}

-- the declaration behind others
stands : (before es : List Declaration) (e : Declaration) → slice_get (before ++ e ∷ es) (length before) ≡ Some e
stands before es e =
    let z : length before ≡ length before + 0 = omega arith in
    ap (λ k. slice_get (before ++ e ∷ es) k) z ∙ get_right before (e ∷ es) (length before) 0 refl

module _ (all : List Declaration) where
  var_is : (before es : List Declaration) (x : SharedDeclaration) → all ≡ before ++ shared x ∷ es
      → var_in (merges_from 0 all) (funs all) (variable_behind before x).info (slice_get all (length before))
      ≡ var_of all (variable_behind before x) ∷ []
  var_is before es x whole =
      ap (λ o. var_in (merges_from 0 all) (funs all) (variable_behind before x).info o)
      (ap (λ l. slice_get l (length before)) whole ∙ stands before es (shared x))
      ∙ ap (λ m. record (var_of all (variable_behind before x)) { merge = m } ∷ [])
      (entry_is all (merge_of before x.by))

  pub vars_are : (before es : List Declaration) → all ≡ before ++ es
      → vars_in (merges_from 0 all) (funs all) all (map (λ x. x.info) (variables_behind before es))
      ≡ map (var_of all) (variables_behind before es)
  vars_are before [] whole = refl
  vars_are before (shared x ∷ es) whole =
      (λ i. var_is before es x whole i
      ++ vars_are (before ++ shared x ∷ []) es (whole ∙ sym (append_assoc before (shared x ∷ []) es)) i)
  vars_are before (fun w ps r body ∷ es) whole =
      vars_are (before ++ fun w ps r body ∷ []) es (whole ∙ sym (append_assoc before (fun w ps r body ∷ []) es))
  vars_are before (merge w m j r body ∷ es) whole =
      vars_are (before ++ merge w m j r body ∷ []) es (whole ∙ sym (append_assoc before (merge w m j r body ∷ []) es))
  vars_are before (proc w ps r body ∷ es) whole =
      vars_are (before ++ proc w ps r body ∷ []) es (whole ∙ sym (append_assoc before (proc w ps r body ∷ []) es))

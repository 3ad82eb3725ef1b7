-- One more row of variables, with a choice for each of its cells.
use Rattle.std.proofs.Common.{◌≡◌, sym, subst, ℕ, ◌+◌, ◌<◌, List, ◌++◌, length, replicate, drop, get_or, Option}
use Rattle.std.proofs.lemmas.List.{get_or_default}
use Rattle.rev_syntax.specs.Trees.{Expression, ProgramTree}
use Rattle.typed_programs.specs.declared.shared_info.SharedInfo.{SharedInfo}
use Rattle.revision_state.specs.Tables.{merges_in}
use Rattle.kernel_choices.specs.Choices.{IsChoice, AreChoices}
use Rattle.kernel_choices.proofs.Rows.{goes_on}
use Rattle.kernel_choices.proofs.Serving.{more_choices, same_choices}

-- these are choices for the merges of the first rows
abbrev pub SoFar : ProgramTree → List Expression → List SharedInfo → ℕ → List (Option ℕ) → Type 0
SoFar p kernels rows i choices =
    (ms : List (Option ℕ)) × (ms ++ merges_in (drop i rows) ≡ merges_in rows) × AreChoices p kernels ms choices

pub one_more : (p : ProgramTree) (kernels : List Expression) (rows : List SharedInfo) (i : ℕ) (d : SharedInfo)
    (choice : Option ℕ) (choices more : List (Option ℕ)) → more ≡ choices ++ replicate (get_or rows i d).cells choice
    → IsChoice p kernels (get_or rows i d).merge choice → i < length rows → SoFar p kernels rows i choices
    → SoFar p kernels rows (i + 1) more
one_more p kernels rows i d choice choices more is chosen inside so =
    let x = get_or rows i d in (
      so.0 ++ replicate x.cells x.merge,
      goes_on rows i x inside (get_or_default rows i d x inside) so.0 so.1,
      subst (AreChoices p kernels (so.0 ++ replicate x.cells x.merge)) (sym is)
          (more_choices p kernels so.0 choices (replicate x.cells x.merge) (replicate x.cells choice) so.2
          (same_choices p kernels x.cells x.merge choice chosen)),
    )

-- Answers of merge_list: the rows of a typed program are those of its variables, so their merges are the program's.
use Rattle.std.proofs.Common.{ap, ◌∙◌}
use Rattle.std.proofs.lemmas.Result.{IfOk-weaker}
use Rattle.rev_syntax.specs.View.{program as whole}
use Rattle.typed_programs.specs.Layout.{variables}
use Rattle.revision_state.specs.Tables.{merges_in}
use Rattle.revision_state.proofs.Merges.{merges_by_row}
use Rattle.revision_state.proofs.tables.merge_list.Goals as goal

pub returns : goal.returns
returns c =
    let p = whole c.args.typed.now.expanded.program in
    IfOk-weaker c.merges_of_rows.result _ _
    (λ list e. e ∙ ap merges_in (c.as_slice.ensures ∙ c.args.typed.now.shared_listed) ∙ merges_by_row (variables p))
    c.merges_of_rows.ensures

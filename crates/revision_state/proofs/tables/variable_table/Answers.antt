-- Answers of variable_table: the rows are those of the program's variables, and the table has the first of each name.
use Rattle.std.proofs.Common.{[], ap, ◌∙◌}
use Rattle.std.proofs.lemmas.Result.{IfOk-weaker}
use Rattle.rev_syntax.specs.View.{program as whole}
use Rattle.name_tables.specs.Table.{find}
use Rattle.revision_state.specs.Tables.{entered, shared_at}
use Rattle.revision_state.proofs.Rows.{variables_entered}
use Rattle.revision_state.proofs.tables.variable_table.Goals as goal

pub returns : goal.returns
returns c =
    let p = whole c.args.typed.now.expanded.program in
    IfOk-weaker c.enter_variables.result _ _
    (λ t e name.
    ap (find name)
    (e ∙ ap (entered (shared_at p.declarations) []) (c.as_slice.ensures ∙ c.args.typed.now.shared_listed))
    ∙ variables_entered p name)
    c.enter_variables.ensures

-- Answers of procedure_table: the list is that of the program's procedures, and the table has the first of each name.
use Rattle.std.proofs.Common.{[], ap, ◌∙◌}
use Rattle.std.proofs.lemmas.Result.{IfOk-weaker}
use Rattle.rev_syntax.specs.View.{program as whole}
use Rattle.name_tables.specs.Table.{find}
use Rattle.revision_state.specs.Tables.{entered, proc_at}
use Rattle.revision_state.proofs.Rows.{procedures_entered}
use Rattle.revision_state.proofs.tables.procedure_table.Goals as goal

pub returns : goal.returns
returns c =
    let p = whole c.args.typed.now.expanded.program in
    IfOk-weaker c.enter_procedures.result _ _
    (λ t e name.
    ap (find name) (e ∙ ap (entered (proc_at p.declarations) []) (c.as_slice.ensures ∙ c.args.typed.now.procs_listed))
    ∙ procedures_entered p name)
    c.enter_procedures.ensures

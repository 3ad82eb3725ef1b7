-- Loops of enter_procedures: the table so far, with the rows left entered, is that of all rows.
use Rattle.std.proofs.Common.{◌≡◌, [], drop}
use Rattle.rev_syntax.specs.View.{program as whole}
use Rattle.revision_state.specs.Tables.{entered, proc_at}
use Rattle.revision_state.proofs.tables.enter_procedures.Given as goal

abbrev pub invariant-loop-number : goal.invariant-loop-number
invariant-loop-number l =
    entered (proc_at (whole l.typed.expanded.program).declarations) l.table (drop l.number-index l.rows)
    ≡ entered (proc_at (whole l.typed.expanded.program).declarations) [] l.rows

-- Loops of enter_variables: the table so far, with the rows left entered, is that of all rows.
use Rattle.std.proofs.Common.{◌≡◌, [], drop}
use Rattle.rev_syntax.specs.View.{program as whole}
use Rattle.revision_state.specs.Tables.{entered, shared_at}
use Rattle.revision_state.proofs.tables.enter_variables.Given as goal

abbrev pub invariant-loop-info : goal.invariant-loop-info
invariant-loop-info l =
    entered (shared_at (whole l.typed.expanded.program).declarations) l.table (drop l.info-index l.rows)
    ≡ entered (shared_at (whole l.typed.expanded.program).declarations) [] l.rows

-- Loops of start_rows: the locations so far, with those of the rows left, are those of all rows.
use Rattle.std.proofs.Common.{◌≡◌, ◌++◌, drop}
use Rattle.rev_syntax.specs.View.{program as whole}
use Rattle.revision_calculus.specs.State.{fresh}
use Rattle.revision_state.specs.Tables.{starts_in}
use Rattle.revision_state.proofs.start.start_rows.Given as goal

abbrev pub invariant-loop-info : goal.invariant-loop-info
invariant-loop-info l =
    l.locations.items ++ fresh (starts_in (whole l.typed.expanded.program).declarations (drop l.info-index l.rows))
    ≡ fresh (starts_in (whole l.typed.expanded.program).declarations l.rows)

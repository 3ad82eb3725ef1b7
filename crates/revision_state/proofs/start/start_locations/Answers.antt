-- Answers of start_locations: the rows of a typed program are those of its variables, and so are their locations.
use Rattle.std.proofs.Common.{ap, ◌∙◌}
use Rattle.std.proofs.lemmas.Result.{IfOk-weaker}
use Rattle.rev_syntax.specs.View.{program as whole}
use Rattle.revision_calculus.specs.State.{fresh}
use Rattle.revision_state.specs.Tables.{starts_in}
use Rattle.revision_state.proofs.Starts.{starts_by_row}
use Rattle.revision_state.proofs.start.start_locations.Goals as goal

pub returns : goal.returns
returns c =
    let p = whole c.args.typed.now.expanded.program in
    IfOk-weaker c.start_rows.result _ _
    (λ ms e. e
    ∙ ap (λ rows. fresh (starts_in p.declarations rows)) (c.as_slice.ensures ∙ c.args.typed.now.shared_listed)
    ∙ ap fresh (starts_by_row p))
    c.start_rows.ensures

-- `ends_with`: a path and the end of a list.
use Rattle.code_runs.proofs.Naming.{same_end}
use Rattle.code_runs.proofs.paths.ends_with.Goals as goal

pub returns-then-count-gt0-clause-same : goal.returns-then-count-gt0-clause-same
returns-then-count-gt0-clause-same c =
    λ q. same_end q c.args.place c.args.places.now c.args.count c.if-count-gt0.true c.requires

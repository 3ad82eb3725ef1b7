-- Loops of Local::values: the values so far in front of what the arguments left give are what all arguments give.
use Rattle.std.proofs.Common.{◌≡◌, drop}
use Rattle.rev_syntax.specs.View.{expressions}
use Rattle.revision_calculus.specs.Evaluation.{evals}
use Rattle.revision_data.specs.Reading.{prefixed}
use Rattle.revision_state.specs.Views.{given}
use Rattle.revision_steps.proofs.local.Local.values.Given as goal

abbrev pub invariant-loop-arg : goal.invariant-loop-arg
invariant-loop-arg l =
    prefixed l.values.items (evals (given l.setting) l.self (expressions (drop l.arg-index l.args)))
    ≡ evals (given l.setting) l.self (expressions l.args)

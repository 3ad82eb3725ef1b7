-- Answers of args_values: one argument after another.
use Rattle.code_runs.specs.Births.{path_in}
use Rattle.rev_record.specs.Words.{args_of}
use Rattle.rev_record.proofs.Loops.{args_done}
use Rattle.rev_record.proofs.values.args_values.Goals as goal

pub returns : goal.returns
returns c = λ paths names.
    args_done (path_in paths) c.args.kinds.now c.args.words.now c.loop-at.at c.loop-at.values.items
    (args_of (path_in paths) c.args.kinds.now c.args.words.now)
    c.loop-at-test.false (c.loop-at.invariant paths names)

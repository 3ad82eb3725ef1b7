-- `path_by`: the path of a number of the births.
use Rattle.std.proofs.Common.{◌∙◌, Some, sym, ap, arith}
use Rattle.revision_machine.proofs.Lists.{at_none}
use Rattle.code_runs.proofs.Naming.{path_there}
use Rattle.code_runs.proofs.of_revision.path_by.Goals as goal

pub path_of-requires : goal.path_of-requires
path_of-requires c = c.requires

pub returns-in_ok-path : goal.returns-in_ok-path
returns-in_ok-path c = λ paths names.
    ap Some (c.in_ok-path.ensures paths names)
    ∙ sym (path_there c.args.births.now paths names c.args.number c.if-number-births.true)

pub returns-else-number-births : goal.returns-else-number-births
returns-else-number-births c = λ paths names.
    let many = names.all in
    let past = c.if-number-births.false in
    sym (at_none paths c.args.number (omega (arith, many, past)))

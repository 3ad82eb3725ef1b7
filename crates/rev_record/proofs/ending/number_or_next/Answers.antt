-- `number_or_next`: the number of the path, or the one behind the last.
use Rattle.std.proofs.Common.{◌∙◌, sym}
use Rattle.revision_machine.proofs.Numbers.{number_at}
use Rattle.rev_record.proofs.Ends.{number_absent}
use Rattle.rev_record.proofs.ending.number_or_next.Goals as goal

pub returns-in-Some-clause-number : goal.returns-in-Some-clause-number
returns-in-Some-clause-number c = λ paths names distinct.
    sym (number_at paths c.in-Some.number c.args.path.now distinct (c.in-Some.ensures paths names))

pub returns-in-None-clause-number : goal.returns-in-None-clause-number
returns-in-None-clause-number c =
    λ paths names distinct. sym names.all ∙ sym (number_absent paths c.args.path.now (c.in-None.ensures paths names))

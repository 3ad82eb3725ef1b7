-- `revision_number`: the numbers of a world by its births.
use Rattle.std.proofs.Common.{sym, subst}
use Rattle.revision_machine.specs.Numbered.{paths_of}
use Rattle.code_runs.specs.Revisions.{IsNumberIn}
use Rattle.code_runs.proofs.InWorlds.{few_births, named, number_twice}
use Rattle.code_runs.proofs.of_revision.revision_number.Goals as goal

pub number_of-requires-clause-few : goal.number_of-requires-clause-few
number_of-requires-clause-few c =
    let q = c.requires in
    few_births q.0 q.2 q.1 q.3 c.births.result.now
    (named q.0 c.args.world.now q.1 c.in-Live.field-0 c.in-Live.is q.4 c.births.result.now c.births.ensures)

pub number_of-requires-clause-names : goal.number_of-requires-clause-names
number_of-requires-clause-names c =
    let q = c.requires in
    let k = named q.0 c.args.world.now q.1 c.in-Live.field-0 c.in-Live.is q.4 c.births.result.now c.births.ensures in
    (paths_of k.entries, k.names)

pub returns-in-Live : goal.returns-in-Live
returns-in-Live c = λ g w is.
    let k = named g c.args.world.now w c.in-Live.field-0 c.in-Live.is is c.births.result.now c.births.ensures in
    subst (λ z. IsNumberIn z c.args.path.now c.number_of.result) (sym k.is)
    (c.number_of.ensures (paths_of k.entries) k.names)

pub returns-in-Twice : goal.returns-in-Twice
returns-in-Twice c = λ g w is. number_twice g c.args.world.now w c.in-Twice.is is c.args.path.now

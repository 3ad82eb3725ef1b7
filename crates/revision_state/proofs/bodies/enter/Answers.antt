-- Answers of enter: whether the name is new or not, all numbers stay below the count and no two names share one.
use Rattle.name_tables.specs.Table.{added}
use Rattle.revision_state.specs.LocalPlaces.{AreApart, AreBelow}
use Rattle.revision_state.proofs.LocalPlaces.{apart_added, below_added, either}
use Rattle.revision_state.proofs.bodies.enter.Goals as goal

pub returns-clause-below : goal.returns-clause-below
returns-clause-below c =
    let t = c.args.numbers.now in
    either AreBelow c.add.result t (added t c.args.name.now c.len-next.result) c.add.new.self c.add.ensures.ok
    c.add.ensures.err c.requires.below
    (below_added t c.args.name.now c.len-next.result c.len-next.ensures c.requires.below)

pub returns-clause-apart : goal.returns-clause-apart
returns-clause-apart c =
    let t = c.args.numbers.now in
    either AreApart c.add.result t (added t c.args.name.now c.len-next.result) c.add.new.self c.add.ensures.ok
    c.add.ensures.err c.requires.apart
    (apart_added t c.args.name.now c.len-next.result c.len-next.ensures c.requires.below c.requires.apart)

-- Answers of Records::reach: a place more goes on from the places so far.
use Rattle.std.proofs.Common.{rules}
use Rattle.hub_core.proofs.Places.{longer_next}
use Rattle.hub_core.proofs.records.Records.reach.Goals as goal

pub loop-preserved : goal.loop-preserved
loop-preserved g c =
    let i = c.loop.invariant in
    let one = c.lengthen.ensures.one in
    (longer_next i.0 c.lengthen.ensures.longer, search rules)

pub returns-then-not-lengthen-clause-longer : goal.returns-then-not-lengthen-clause-longer
returns-then-not-lengthen-clause-longer g c =
    longer_next c.loop.invariant.0 c.lengthen.ensures.longer

-- Answers of part_noted: the notes hold an end, so the part is made of that end and the noted forks and joins.
use Rattle.std.proofs.Common.{◌∙◌, sym}
use Rattle.code_world.proofs.Rows.{none_some, some_same}
use Rattle.code_traces.specs.NotedParts.{noted_part}
use Rattle.code_traces.proofs.listing.part_noted.Goals as goal

pub part_of-requires : goal.part_of-requires
part_of-requires c = c.requires.names

pub unreachable-requires : goal.unreachable-requires
unreachable-requires c = none_some (sym c.in-None.is ∙ c.requires.ended.1)

pub returns : goal.returns
returns c = λ paths v names is.
    let list = c.as_slice-list.ensures.value in
    let end = some_same (sym c.in-Some.is ∙ is) in
    c.in_ok-part-in-Some.ensures paths names
    ∙ (λ i. noted_part c.args.places.now c.args.kinds.now paths c.args.number (list i) (end i))
